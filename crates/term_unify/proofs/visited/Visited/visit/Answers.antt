use Rattle.std.proofs.Common.{◌≡◌, ◌∙◌, ◌==◌, ◌&&◌, inl, inr, sym, true, false, cond, eqb-true, Bool}
use Rattle.std.proofs.lemmas.Bool.{and_parts, cases_Bool, false≢true}
use Rattle.term_unify.proofs.visited.Visited.visit.Goals as goal

kept : (b m n : Bool) → m ≡ cond b true n → b ≡ false → m ≡ true → n ≡ true
kept true m n e f h = absurd (false≢true (sym f))
kept false m n e f h = sym e ∙ h

pub returns-clause-noted : goal.returns-clause-noted
returns-clause-noted c = λ x y h. elim (cases_Bool (c.args.a == x && c.args.b == y)) [
  | inl t ↦ (let p = and_parts (c.args.a == x) (c.args.b == y) t in inr (sym (eqb-true c.args.a x p.0), sym (eqb-true c.args.b y p.1)))
  | inr f ↦ inl (kept (c.args.a == x && c.args.b == y) _ _ (c.in_ok-first.ensures.updates.0 (x, y)) f h)
]
