use Rattle.std.proofs.Common.{◌≡◌, ◌==◌, sym, ◌∙◌, ap, find, option_copied, option_map}
use Rattle.calculus.specs.Derivations.{SpareName}
use Rattle.sequent_calc.specs.NamesView.{the_spare}
use Rattle.sequent_calc.proofs.ByNumber.{find-map}
use Rattle.sequent_calc.proofs.names.SpareList.named.Goals as goal

pub returns : goal.returns
returns c =
    let xs = c.self.inside.items.items in
    let there : option_copied c.found.result ≡ find (λ x. x.0 == c.args.number) c.as_slice.result.now = c.found.ensures in
    let same : option_copied c.found.result ≡ find (λ x. x.0 == c.args.number) xs = there ∙ ap (find (λ x. x.0 == c.args.number)) c.as_slice.ensures.value in
    ap (option_map the_spare) same ∙ sym (find-map (λ (x : SpareName). x.number == c.args.number) the_spare xs) ∙ ap (find (λ (x : SpareName). x.number == c.args.number)) c.self.view_is
