-- Closings that are taken from a stack.
use Rattle.std.proofs.Common.{◌≡◌, ℕ, zero, suc, ◌+◌, ◌-◌, ◌≤◌, List, [], ◌∷◌, ◌++◌, length, map, reverse, take, drop, Ok, refl, sym, ◌∙◌, ap, arith}
use Rattle.std.proofs.lemmas.List.{get_or_past, length-map, length-reverse, map-append, reverse-append, take_all}
use Rattle.std.proofs.lemmas.Simd.{map-map}
use Rattle.plain_laws.proofs.Lists.{map-drop, map-take}
use Rattle.calculus.specs.Lists.{closings_tree}
use Rattle.calculus.specs.Tableaux as tree
use Rattle.formula_core.specs.GroundLists.{GroundList, list_at, no_list, of_terms}
use Rattle.tableau_core.proofs.Numbered.ClosingLaws.{closings-in}
use Rattle.tableau_core.specs.Numbered.Closings as numbered
use Rattle.tableau_core.specs.Numbered.ClosingView.{closing_in, closings_in, the_closing}
use Rattle.tableau_core.specs.Numbered.InstanceView.{the_instance}
use Rattle.tableau_core.specs.Numbered.LiteralView.{the_literal}
use Rattle.tableau_core.specs.declared.closing.Closing as program
use Rattle.tableau_core.specs.declared.closing.Closing.TheVariants.{Extend}
use Rattle.tableau_core.specs.declared.instance.ClauseInstance.{ClauseInstance}
use Rattle.tableau_cert.specs.Building.{built_on, put_closer, put_extension, the_stack}
use Rattle.tableau_cert.specs.Resolving.{Closer}

pub no-list : (ls : List GroundList) → length ls ≤ no_list → list_at ls no_list ≡ of_terms []
no-list ls h = get_or_past ls no_list (of_terms []) h

drop-head : {X : Type 0} (R : List X) (k : ℕ) (c : X) (xs : List X) → drop k R ≡ c ∷ xs → (take (suc k) R ≡ take k R ++ c ∷ []) × (drop (suc k) R ≡ xs)
drop-head [] zero c xs e = cc
drop-head [] (suc k) c xs e = cc
drop-head (r ∷ R) zero c xs e = let h : r ≡ c = cc in let t : R ≡ xs = cc in (ap (λ y. y ∷ []) h, t)
drop-head (r ∷ R) (suc k) c xs e = let p = drop-head R k c xs e in (ap (λ ys. r ∷ ys) p.0, p.1)

drop-none : {X : Type 0} (R : List X) (k n : ℕ) → drop k R ≡ [] → k ≤ n → (take k R ≡ take n R) × (drop n R ≡ [])
drop-none [] zero zero e h = (refl, refl)
drop-none [] zero (suc n) e h = (refl, refl)
drop-none [] (suc k) zero e h = (refl, refl)
drop-none [] (suc k) (suc n) e h = (refl, refl)
drop-none (r ∷ R) zero n e h = cc
drop-none (r ∷ R) (suc k) zero e h = absurd (omega (arith, h))
drop-none (r ∷ R) (suc k) (suc n) e h = let p = drop-none R k n e (omega (arith, h)) in (ap (λ ys. r ∷ ys) p.0, p.1)

-- one more is taken
pub first-taken : (all stack rest : List program.Closing) (list more : List numbered.Closing) (c : program.Closing) (k : ℕ) → list ≡ map the_closing (take k (reverse all)) → reverse stack ≡ drop k (reverse all) → stack ≡ rest ++ c ∷ [] → more ≡ list ++ the_closing c ∷ [] → (more ≡ map the_closing (take (k + 1) (reverse all))) × (reverse rest ≡ drop (k + 1) (reverse all))
first-taken all stack rest list more c k e h q m =
    let p = drop-head (reverse all) k c (reverse rest) (sym h ∙ ap reverse q ∙ reverse-append rest (c ∷ [])) in
    let s : k + 1 ≡ suc k = omega arith in
    (m ∙ ap (λ xs. xs ++ the_closing c ∷ []) e ∙ sym (map-append the_closing (take k (reverse all)) (c ∷ [])) ∙ sym (ap (map the_closing) p.0) ∙ ap (λ n. map the_closing (take n (reverse all))) (sym s), sym p.1 ∙ ap (λ n. drop n (reverse all)) (sym s))

-- none is left
pub none-taken : (all stack : List program.Closing) (list : List numbered.Closing) (k n : ℕ) → list ≡ map the_closing (take k (reverse all)) → reverse stack ≡ drop k (reverse all) → stack ≡ [] → k ≤ n → (list ≡ map the_closing (take n (reverse all))) × (reverse stack ≡ drop n (reverse all))
none-taken all stack list k n e h q l =
    let p = drop-none (reverse all) k n (sym h ∙ ap reverse q) l in
    (e ∙ ap (map the_closing) p.0, ap reverse q ∙ sym p.1)

module _ (ls : List GroundList) where
  abbrev closing : program.Closing → tree.Closing
  closing y = closing_in ls (the_closing y)

  pub stack-pushed : (stack new : List program.Closing) (c : program.Closing) → new ≡ stack ++ c ∷ [] → the_stack ls new ≡ closing c ∷ the_stack ls stack
  stack-pushed stack new c e = ap (map closing) (ap reverse e ∙ reverse-append stack (c ∷ []))

  pub extension-pushed : (old stack new : List program.Closing) (i : ClauseInstance) (place n : ℕ) (goals : List numbered.Closing) → goals ≡ map the_closing (take n (reverse old)) → reverse stack ≡ drop n (reverse old) → n ≡ length i.literals - 1 → new ≡ stack ++ Extend i place goals ∷ [] → the_stack ls new ≡ put_extension place (Ok (the_instance ls i)) (the_stack ls old)
  extension-pushed old stack new i place n goals e h m q =
      let count : n ≡ length (map (the_literal ls) i.literals) - 1 = m ∙ ap (λ k. k - 1) (sym (length-map i.literals (the_literal ls))) in
      let below : closings_in ls (numbered.closings_tree goals) ≡ closings_tree (take (length (map (the_literal ls) i.literals) - 1) (the_stack ls old)) =
      closings-in ls goals ∙ ap closings_tree (ap (map (closing_in ls)) e ∙ map-map (closing_in ls) the_closing (take n (reverse old)) ∙ map-take closing n (reverse old) ∙ ap (λ k. take k (the_stack ls old)) count) in
      let rest : the_stack ls stack ≡ drop (length (map (the_literal ls) i.literals) - 1) (the_stack ls old) = ap (map closing) h ∙ map-drop closing n (reverse old) ∙ ap (λ k. drop k (the_stack ls old)) count in
      stack-pushed stack new (Extend i place goals) q ∙ (λ j. tree.extend (the_instance ls i) place (below j) ∷ rest j)

pub built-more : (cs : List Closer) (c : Closer) (rest : List tree.Closing) → built_on (cs ++ c ∷ []) rest ≡ built_on cs (put_closer c rest)
built-more [] c rest = refl
built-more (x ∷ cs) c rest = ap (put_closer x) (built-more cs c rest)

-- the last move is put first
pub built-popped : {X : Type 0} (f : X → Closer) (all rest : List X) (c : X) (now new v : List tree.Closing) → built_on (map f all) now ≡ v → all ≡ rest ++ c ∷ [] → new ≡ put_closer (f c) now → built_on (map f rest) new ≡ v
built-popped f all rest c now new v h e n = ap (built_on (map f rest)) n ∙ sym (built-more (map f rest) (f c) now) ∙ ap (λ xs. built_on xs now) (sym (ap (map f) e ∙ map-append f rest (c ∷ []))) ∙ h

pub built-done : {X : Type 0} (f : X → Closer) (all : List X) (now v : List tree.Closing) → built_on (map f all) now ≡ v → all ≡ [] → now ≡ v
built-done f all now v h e = sym (ap (λ xs. built_on (map f xs) now) e) ∙ h

-- all are taken
pub all-taken : (ls : List GroundList) (stack : List program.Closing) (goals : List numbered.Closing) (n : ℕ) (v : List tree.Closing) → the_stack ls stack ≡ v → n ≡ length stack → goals ≡ map the_closing (take n (reverse stack)) → map (closing_in ls) goals ≡ v
all-taken ls stack goals n v h m e =
    ap (map (closing_in ls)) (e ∙ ap (map the_closing) (take_all n (reverse stack) (let r = length-reverse stack in omega (arith, m, r))))
    ∙ map-map (closing_in ls) the_closing (reverse stack)
    ∙ h
