-- Transfers of small derivations, computed.
use Rattle.std.proofs.Common.{◌≡◌, List, [], ◌∷◌, true, refl}
use Rattle.std.specs.Prelude.{codes}
use Rattle.std.specs.Fmt.{digits}
use Rattle.calculus.specs.declared.version.Version.TheVariants.{One}
use Rattle.calculus.specs.declared.symbol.SymbolClass.TheVariants.{Predicate}
use Rattle.calculus.specs.declared.setting.Logic.TheVariants.{Intuitionistic}
use Rattle.calculus.specs.declared.setting.Domains.TheVariants.{Cumulative}
use Rattle.calculus.specs.Syntax.{Term, var, eigen, no_terms, more_terms, Formula, atom, neg, conj, disj, imp, all, setting_of, Problem}
use Rattle.calculus.specs.Derivations.{new_mark, no_modal, to, by_new, no_term, by_term, by_name, Step, apply_to, close, Derivation}
use Rattle.calculus.specs.DerivationText.{is_printable}
use Rattle.calculus.specs.Judgement.{accepted}
use Rattle.calculus.specs.Versions.{text_in}
use Rattle.calculus.specs.VersionJudgement.{verdict_in}
use Rattle.calculus.specs.Translation.{translated_problem}
use Rattle.godel_transfer.specs.Transfer.{transferred}

abbrev p : Formula
p = atom 0 no_terms

abbrev problem : Formula → Problem
problem f = record { setting = setting_of Intuitionistic Cumulative; formula = f; symbols = record { name = codes "p"; class = Predicate; arity = 0 } ∷ [] }

abbrev derivation : List Step → Derivation
derivation steps = record { limit = 1; names = record { eigens = []; spares = [] }; steps = steps }

-- ~~(p | ~p)
abbrev excluded : Problem
excluded = problem (neg (neg (disj p (neg p))))

abbrev excluded_derivation : Derivation
excluded_derivation = derivation (apply_to 1 (by_new 1) no_term ∷ apply_to 2 (to (new_mark 1 ∷ [])) no_term ∷ apply_to 3 no_modal no_term ∷ apply_to 5 (by_new 2) no_term ∷ apply_to 2 (to (new_mark 1 ∷ new_mark 2 ∷ [])) no_term ∷ apply_to 7 no_modal no_term ∷ apply_to 8 (by_new 3) no_term ∷ apply_to 6 (to (new_mark 1 ∷ new_mark 2 ∷ new_mark 3 ∷ [])) no_term ∷ close 11 10 ∷ [])

excluded_derives : verdict_in One excluded excluded_derivation ≡ accepted
excluded_derives = refl

excluded_transfer : verdict_in One (translated_problem excluded) (transferred excluded excluded_derivation) ≡ accepted
excluded_transfer = refl

-- p => p, where an F atom is stepped twice
abbrev identity : Problem
identity = problem (imp p p)

abbrev identity_derivation : Derivation
identity_derivation = derivation (apply_to 1 (by_new 1) no_term ∷ apply_to 3 (by_new 2) no_term ∷ apply_to 4 (by_new 3) no_term ∷ apply_to 2 (to (new_mark 1 ∷ new_mark 2 ∷ new_mark 3 ∷ [])) no_term ∷ close 6 5 ∷ [])

identity_derives : verdict_in One identity identity_derivation ≡ accepted
identity_derives = refl

identity_transfer : verdict_in One (translated_problem identity) (transferred identity identity_derivation) ≡ accepted
identity_transfer = refl

identity_printable : is_printable (translated_problem identity) (transferred identity identity_derivation) ≡ true
identity_printable = refl

identity_text : text_in One (translated_problem identity) (transferred identity identity_derivation) ≡ codes "leancop derivation 1\nlogic s4 cumulative\nformula #box:(#box:p => #box:p)\nlimit 1\nname $$s1 any\nuse 1 new $$c1\nuse 2\nuse 4 new $$c4\nuse 3 to [$$c1,$$c4]\naxiom 6 5\nend\n"
unfolding digits
identity_text = refl

excluded_text : text_in One (translated_problem excluded) (transferred excluded excluded_derivation) ≡ codes "leancop derivation 1\nlogic s4 cumulative\nformula #box:~#box:~(#box:p | #box:~#box:p)\nlimit 1\nname $$s1 any\nuse 1 new $$c1\nuse 2\nuse 3 to [$$c1]\nuse 4\nuse 5\nuse 7 new $$c7\nuse 8\nuse 3 to [$$c1,$$c7]\nuse 10\nuse 11\nuse 12 new $$c13\nuse 9 to [$$c1,$$c7,$$c13]\naxiom 15 14\nend\n"
unfolding digits
excluded_text = refl

-- ![X]:d(X) => ![Y]:(d(Y) & d(Y)), where the second branch steps the F atom, and by that goes to a longer label
abbrev d_of : Term → Formula
d_of t = atom 0 (more_terms t no_terms)

abbrev general : Problem
general = record { setting = setting_of Intuitionistic Cumulative; formula = imp (all (d_of (var 0))) (all (conj (d_of (var 0)) (d_of (var 0)))); symbols = record { name = codes "d"; class = Predicate; arity = 1 } ∷ [] }

abbrev general_derivation : Derivation
general_derivation = record {
  limit = 2;
  names = record { eigens = record { number = 7; home = new_mark 4 ∷ new_mark 9 ∷ [] } ∷ []; spares = [] };
  steps =
      apply_to 1 (by_new 4) no_term
      ∷ apply_to 3 (by_new 9) (by_name 7)
      ∷ apply_to 4 no_modal no_term
      ∷ apply_to 2 (to (new_mark 4 ∷ new_mark 9 ∷ [])) (by_term (eigen 7))
      ∷ close 6 5
      ∷ apply_to 5 (by_new 2) no_term
      ∷ apply_to 2 (to (new_mark 4 ∷ new_mark 9 ∷ new_mark 2 ∷ [])) (by_term (eigen 7))
      ∷ close 7 6
      ∷ [];
}

general_derives : verdict_in One general general_derivation ≡ accepted
general_derives = refl

general_transfer : verdict_in One (translated_problem general) (transferred general general_derivation) ≡ accepted
general_transfer = refl

general_text : text_in One (translated_problem general) (transferred general general_derivation) ≡ codes "leancop derivation 1\nlogic s4 cumulative\nformula #box:(#box:![X1]:#box:d(X1) => #box:![X1]:(#box:d(X1) & #box:d(X1)))\nlimit 2\nname $$e2 [$$c1,$$c4]\nname $$s1 any\nuse 1 new $$c1\nuse 2\nuse 4 new $$c4\nuse 5 name $$e2\nuse 6\nuse 3 to [$$c1,$$c4]\nuse 8 term $$e2\nuse 7 new $$c9\nuse 9 to [$$c1,$$c4,$$c9]\naxiom 11 10\nuse 3 to [$$c1,$$c4]\nuse 8 term $$e2\nuse 7 new $$c9\nuse 9 to [$$c1,$$c4,$$c9]\naxiom 11 10\nend\n"
unfolding digits
general_text = refl
