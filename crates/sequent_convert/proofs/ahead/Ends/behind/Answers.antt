use Rattle.std.proofs.Common.{◌≡◌, ◌++◌, ap, ◌∙◌, refl, sym, subst, length, length-append, drop, arith}
use Rattle.sequent_convert.specs.AheadView.{ends_sizes}
use Rattle.sequent_convert.specs.ByNumber.AheadView.{sizes_among, the_ends}
use Rattle.sequent_convert.proofs.SizesAhead.{row-first, row-second, ends-counted}
use Rattle.sequent_convert.proofs.ByNumber.SizeLaws.{ends-together}
use Rattle.sequent_convert.proofs.ahead.Ends.behind.Goals as goal

pub behind_closings-middle-requires : goal.behind_closings-middle-requires
behind_closings-middle-requires c =
    let ls = c.requires.0 in
    let rest = c.requires.1 in
    let e = c.args.self.now in
    (sizes_among e.after.now ++ rest, row-first (ends_sizes (the_ends ls e)) (sizes_among e.before.now) (sizes_among e.after.now) rest (drop c.args.place c.args.sizes.now) c.requires.2 (ends-together ls e.before.now e.after.now e.meets_path))

pub behind_closings-requires : goal.behind_closings-requires
behind_closings-requires c =
    let ls = c.requires.0 in
    let rest = c.requires.1 in
    let e = c.args.self.now in (
      rest,
      subst (λ k. drop k c.args.sizes.now ≡ sizes_among e.after.now ++ rest) (sym c.behind_closings-middle.ensures)
          (row-second c.args.sizes.now c.args.place (length (sizes_among e.before.now)) (ends_sizes (the_ends ls e)) (sizes_among e.before.now) (sizes_among e.after.now) rest c.requires.2 (ends-together ls e.before.now e.after.now e.meets_path) refl),
    )

pub returns : goal.returns
returns c = λ ls.
    let e = c.args.self.now in
    let all = ends-counted (the_ends ls e) in
    let parts = ap length (ends-together ls e.before.now e.after.now e.meets_path) in
    let both = length-append (sizes_among e.before.now) (sizes_among e.after.now) in
    let first = c.behind_closings-middle.ensures in
    let second = c.behind_closings.ensures in
    omega (arith, all, parts, both, first, second)
