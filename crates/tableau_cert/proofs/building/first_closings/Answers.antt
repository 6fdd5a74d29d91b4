use Rattle.std.proofs.Common.{◌≡◌, ◌+◌, ◌≤◌, [], ◌∷◌, ap, arith, drop, length, map, reverse, sym, take, ◌∙◌}
use Rattle.std.proofs.lemmas.List.{length-append, length-map}
use Rattle.plain_laws.proofs.Lists.{no-items}
use Rattle.tableau_core.specs.Numbered.ClosingView.{the_closing}
use Rattle.tableau_cert.proofs.BuildingLaws.{first-taken, none-taken}
use Rattle.tableau_cert.proofs.building.first_closings.Goals as goal

pub taking-init : goal.taking-init
taking-init c = let all = reverse c.args.stack.now.items in let none = c.new-list.ensures in let z = ap length none in record {
  taken = none ∙ sym (ap (λ xs. map the_closing (take (length xs) all)) none);
  rest = sym (ap (λ xs. drop (length xs) all) none);
  room = omega (arith, z);
}

pub taking-preserved : goal.taking-preserved
taking-preserved c = let all = c.args.stack.now.items in let x = c.taking in let inv = x.invariant in let pushed = c.in_ok-push-in-Some.ensures.ok in
    let p = first-taken all x.stack.items c.pop.new.self.items x.list c.push.new.self c.in-Some.closing (length x.list) inv.taken inv.rest c.in-Some.ensures.items pushed in
    let n : length c.push.new.self ≡ length x.list + 1 = ap length pushed ∙ length-append x.list (the_closing c.in-Some.closing ∷ []) in
    let m = sym (length-map c.items.result.now the_closing) ∙ ap length c.items.ensures in
    let test = c.taking-test.true in
    let room : length x.list + 1 ≤ c.args.count = omega (arith, m, test) in record {
      taken = p.0 ∙ sym (ap (λ j. map the_closing (take j (reverse all))) n);
      rest = p.1 ∙ sym (ap (λ j. drop j (reverse all)) n);
      room = omega (arith, n, room);
    }

pub returns-in-None : goal.returns-in-None
returns-in-None c = let all = c.args.stack.now.items in let x = c.taking in let inv = x.invariant in
    let ok = x.stack.ok.0 in
    let zero = c.in-None.ensures.cases.0 in
    let none : length x.stack.items ≡ 0 = omega (arith, ok, zero) in
    let new_ok = c.pop.new.self.ok.0 in
    let new_zero = c.in-None.ensures.cases.1 in
    let new_none : length c.pop.new.self.items ≡ 0 = omega (arith, new_ok, new_zero) in
    let old = no-items x.stack.items none in
    let p = none-taken all x.stack.items x.list (length x.list) c.args.count inv.taken inv.rest old inv.room in
    record { closings = p.0; rest = ap reverse (no-items c.pop.new.self.items new_none ∙ sym old) ∙ p.1 }

pub returns : goal.returns
returns c = let all = c.args.stack.now.items in let x = c.taking in let inv = x.invariant in
    let room = inv.room in
    let m = sym (length-map c.items.result.now the_closing) ∙ ap length c.items.ensures in
    let test = c.taking-test.false in
    let n : length x.list ≡ c.args.count = omega (arith, room, m, test) in
    record { closings = inv.taken ∙ ap (λ j. map the_closing (take j (reverse all))) n; rest = inv.rest ∙ ap (λ j. drop j (reverse all)) n }
