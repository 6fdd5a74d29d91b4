-- The state before the first step, and the derivation at the end.
use Rattle.std.proofs.Common.{◌≡◌, ℕ, suc, ◌+◌, ◌≤◌, ◌<◌, ◌^◌, Bool, List, [], ◌∷◌, ◌++◌, length, drop, append-nil, true, false, IsTrue, Some, Contains, nat_lt, if◌then◌else◌, refl, sym, ◌∙◌, ap, subst, inl, inr, slice_get, lt-ltb, arith}
use Rattle.std.proofs.lemmas.Bool.{false≢true, ltb-true, cases_Bool}
use Rattle.std.proofs.lemmas.List.{length-map}
use Rattle.calculus.specs.declared.sign.Sign.TheVariants.{F}
use Rattle.calculus.specs.Syntax.{Problem}
use Rattle.calculus.specs.Derivations.{Step, Derivation, Names, axiom_count}
use Rattle.calculus.specs.DerivationText.{is_limit}
use Rattle.calculus.specs.Instances.{Turn, root_spot}
use Rattle.calculus.specs.Positions.{size, node, Node, way_from}
use Rattle.calculus.specs.Skolem.{way_to}
use Rattle.conversion_theory.specs.Branches.{item}
use Rattle.conversion_theory.specs.Leading.{ends_of, ends_cost, is_literal_position}
use Rattle.calculus.specs.Tableaux.{Tableau, instances, instances_of_all, is_closed}
use Rattle.calculus.specs.Problems.{is_problem}
use Rattle.conversion_theory.specs.Numbering.{IsNumbering, name_lines_of, number_of}
use Rattle.conversion_theory.specs.Turns.{turns_of, turns_of_instance, IsAgenda}
use Rattle.calculus.proofs.Members.{among-contains}
use Rattle.conversion_theory.proofs.AgendaLaws.{TurnOf, Anything, turn-works, work-way}
use Rattle.conversion_theory.proofs.RunLaws.{branch, run-done}
use Rattle.conversion_theory.proofs.TaskLaws.{cost-start}
use Rattle.conversion_theory.proofs.LeadingLaws.{way, IsLeading, leading-start}
use Rattle.logic_rules.proofs.ProblemFacts.{kept}
use Rattle.name_order.specs.NamedView.{NamedValue}
use Rattle.name_order.specs.Prerequisites.{IsOrder, ParentsTell, WaitsTell}
use Rattle.sequent_convert.specs.Atoms.{atoms_of}
use Rattle.sequent_convert.specs.AheadView.{Ahead, ends_instances, ends_sizes, sizes_of_all}
use Rattle.sequent_convert.specs.Conversion.{IsConverted}
use Rattle.sequent_convert.specs.State.{Basis, IsBasis, State, turn_at, turns_at, IsAhead, IsOpenRun, IsRun}
use Rattle.sequent_convert.proofs.AtomLaws.{literal-at}
use Rattle.sequent_convert.proofs.ComingLaws.{coming-here}
use Rattle.sequent_convert.proofs.MovingOn.{order-is, instances-start}
use Rattle.sequent_convert.proofs.SizesAhead.{sizes-start}

abbrev pub first_state : Basis → List ℕ → State
first_state B turns = record { is_open = true; steps = []; items = item root_spot F B.problem.formula ∷ []; done = []; ahead = record { turns = turns; ends = ends_of B.tableau.goals; instance = 1 }; waiting = [] }

pub run-begins : (B : Basis) → IsBasis B → (turns : List ℕ) → slice_get B.named.order 0 ≡ Some turns → IsRun B (first_state B turns)
run-begins B basis turns at =
    let same = order-is B basis (coming-here B basis) 0 B.tableau.start (instances_of_all B.tableau.goals) turns refl at in
    let cost = cost-start B.tableau.goals in
    let long : length turns ≡ length (turns_of_instance B.problem B.tableau.start) = sym (length-map turns (turn_at B)) ∙ ap length same.0 in
    record {
      opened = λ _. record {
        leading = subst (λ ts. IsLeading B.problem B.limit B.tableau B.named.names [] (way (branch (item root_spot F B.problem.formula ∷ []) []) ts (ends_of B.tableau.goals) ∷ [])) (sym same.0) (leading-start B.problem B.limit B.tableau B.named.names basis.shut basis.numbering basis.few basis.fits);
        done = tt;
        nest = tt;
        ahead = record { within = same.1; rest = []; row = sym (instances-start B.tableau.goals) ∙ sym (append-nil (ends_instances (ends_of B.tableau.goals))); behind = []; sized = ap (drop 1) basis.sizes ∙ sym (sizes-start B.tableau.goals) ∙ sym (append-nil (ends_sizes (ends_of B.tableau.goals))); light = omega (arith, long) };
        waiting = tt;
        cost = λ none. omega (arith, cost);
      };
      shut = λ e. absurd (false≢true (sym e));
    }

-- a state with the parts of the first one
pub begins-with : (B : Basis) → IsBasis B → (turns : List ℕ) → slice_get B.named.order 0 ≡ Some turns → (s : State) → s.is_open ≡ true → s.steps ≡ [] → s.items ≡ item root_spot F B.problem.formula ∷ [] → s.done ≡ [] → s.ahead ≡ record { turns = turns; ends = ends_of B.tableau.goals; instance = 1 } → s.waiting ≡ [] → IsRun B s
begins-with B basis turns at s opened none root undone ahead alone =
    subst (IsRun B) (λ i. record { is_open = sym opened i; steps = sym none i; items = sym root i; done = sym undone i; ahead = sym ahead i; waiting = sym alone i }) (run-begins B basis turns at)

pub converted-here : (B : Basis) → IsBasis B → IsTrue (is_limit B.limit) → (steps : List Step) → IsLeading B.problem B.limit B.tableau B.named.names steps [] → IsConverted B.problem B.limit (record { limit = B.limit; names = B.lines; steps = steps })
converted-here B basis limit steps h =
    let r = run-done B.problem B.tableau B.named.names B.limit limit basis.numbering basis.few steps h.run in
    let same : r.0 ≡ record { limit = B.limit; names = B.lines; steps = steps } = λ i. record { limit = r.3 i; names = (r.4 ∙ sym basis.lines) i; steps = r.5 i } in
    subst (IsConverted B.problem B.limit) same (record { derives = r.1; printable = r.2; carries = r.3 })

-- the table of atoms tells the turns on literals
pub atoms-tell : (B : Basis) → IsAgenda B.problem B.tableau B.named.agenda → B.atoms ≡ atoms_of B.problem.formula → (x : Turn) → Contains B.named.agenda x → slice_get B.atoms x.position ≡ Some (is_literal_position B.problem x.position)
atoms-tell B ag e x c =
    let here = among-contains (turns_of B.problem B.tableau) x ((ag.all x).1 c) in
    let w = turn-works B.problem B.tableau x here in
    let ways = work-way B.problem (TurnOf B.problem B.tableau) Anything Anything x w in
    ap (λ bs. slice_get bs x.position) e ∙ elim (cases_Bool (nat_lt x.position (size B.problem.formula))) [
      | inl lt ↦ literal-at B.problem x.position (ltb-true x.position (size B.problem.formula) lt)
      | inr ge ↦ absurd (no_way w.before (node w.from.position w.sign w.formula) (sym ways ∙ nowhere ge))
    ]
  where
    nowhere : nat_lt x.position (size B.problem.formula) ≡ false → way_to B.problem x.position ≡ []
    nowhere ge = ap (λ b. if b then way_from 0 F B.problem.formula x.position else []) ge

    no_way : (ns : List Node) (n : Node) → ns ++ n ∷ [] ≡ [] → ⊥
    no_way [] n q = cons_nil q
      where
        cons_nil : {A : Type 0} {a : A} {l : List A} → a ∷ l ≡ [] → ⊥
        cons_nil z = cc
    no_way (m ∷ ns) n q = cons_nil q
      where
        cons_nil : {A : Type 0} {a : A} {l : List A} → a ∷ l ≡ [] → ⊥
        cons_nil z = cc

-- what a conversion goes by
pub basis-of : (P : Problem) (t : Tableau) (limit : ℕ) (named : NamedValue) (lines : Names) (atoms : List Bool) (sizes : List ℕ) → IsTrue (is_closed P limit t) → IsTrue (is_problem P) → IsNumbering P t named.names → length named.names < 2 ^ 32 → IsAgenda P t named.agenda → IsOrder P t named.agenda named.order → ParentsTell P named.agenda named.parents → WaitsTell P named.agenda named.parents named.waits → lines ≡ name_lines_of (number_of named.names) P named.names → atoms ≡ atoms_of P.formula → sizes ≡ 0 ∷ sizes_of_all t.goals → IsBasis (record { problem = P; tableau = t; limit = limit; named = named; lines = lines; atoms = atoms; sizes = sizes })
basis-of P t limit named lines atoms sizes shut well numbering few agenda order parents waits written table counted = record {
  shut = shut;
  fits = (kept P well).formula;
  numbering = numbering;
  few = lt-ltb (length named.names) (2 ^ 32) few;
  agenda = agenda;
  order = order;
  parents = parents;
  waits = waits;
  lines = written;
  atoms = atoms-tell (record { problem = P; tableau = t; limit = limit; named = named; lines = lines; atoms = atoms; sizes = sizes }) agenda table;
  sizes = counted;
}
