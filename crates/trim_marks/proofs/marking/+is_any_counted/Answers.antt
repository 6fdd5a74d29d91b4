use Rattle.std.proofs.Common.{◌≡◌, ℕ, suc, ◌-◌, Bool, false, ◌||◌, arith, sym, ◌∙◌, ap}
use Rattle.trim_theory.specs.Marking.{counts_of, is_counted}
use Rattle.trim_theory.specs.Trimming.{one_after}
use Rattle.trim_marks.proofs.marking.+is_any_counted.Goals as goal

later_after : (p : ℕ → Bool) (n m j next : ℕ) → next ≡ suc n → m ≡ suc j → false ≡ p next → one_after p next j ≡ one_after p n m
later_after p n m j next e h q = ap (λ x. one_after p x j) e ∙ ap (λ b. b || one_after p (suc n) j) (q ∙ ap p e) ∙ sym (ap (one_after p n) h)

pub returns : goal.returns
returns t c =
    let one : c.args.added ≡ suc (c.args.added - 1) = omega arith in
    c.in_ok-rest.ensures ∙ later_after (is_counted (counts_of c.args.counts.now)) c.args.number c.args.added (c.args.added - 1) c.in_ok-next.next c.in_ok-next.ensures one (sym c.if-is_counted.false ∙ c.is_counted.ensures)
