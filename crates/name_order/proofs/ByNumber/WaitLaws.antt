-- Steps of the loops that lead a conversion.
use Rattle.std.proofs.Common.{◌≡◌, ℕ, ◌+◌, ◌-◌, ◌<◌, List, [], ◌∷◌, ◌++◌, map, take, drop, length, get_or, Bool, true, false, Option, Some, None, option_and_then, arith, refl, sym, ◌∙◌, ap, subst, if◌then◌else◌}
use Rattle.std.specs.List.{AllByRecursion, AllZip, take-map, drop-map}
use Rattle.std.proofs.lemmas.List.{drop_more, length-drop, map-append, take_all, take_more}
use Rattle.calculus.specs.Ground as tree
use Rattle.calculus.specs.Ground.{g_eigen, g_new_mark, values_list, values_tree}
use Rattle.calculus.specs.Instances.{Turn}
use Rattle.calculus.specs.Lists.{values_list-values_tree}
use Rattle.calculus.specs.Skolem.{label_of}
use Rattle.calculus.specs.Syntax.{Problem}
use Rattle.conversion_theory.specs.Turns.{Name, mark_name, term_name}
use Rattle.formula_core.specs.GroundLists.{GroundList, the_value}
use Rattle.formula_core.specs.declared.ground.Value.{Value}
use Rattle.name_order.specs.ByNumber.Inside.{home_marks}
use Rattle.name_order.specs.Found.{above_in, before_in, find_in, introducer_in, introducers_in, listed, parent_in}
use Rattle.name_order.specs.Places.{Place, is_delta_in, is_pi_in}
use Rattle.name_order.specs.WalkView.{the_turn_at}
use Rattle.tableau_core.specs.Numbered.SpotView.{the_mark_at}
use Rattle.tableau_core.specs.declared.spot.MarkAt.{MarkAt}
use Rattle.name_order.proofs.Collecting.{flat_map-append}

pub parent-found : (ls : List GroundList) (ps : List Place) (ks : List (List ℕ)) (x : Turn) (vs : List Value) (b q : ℕ) (r : Option ℕ) → map (the_value ls) vs ≡ x.values → b ≡ before_in ps x → Some q ≡ above_in ps x.position → r ≡ find_in ks (the_turn_at q (map (the_value ls) (take b vs))) → r ≡ parent_in ps ks x
parent-found ls ps ks x vs b q r v e a f =
    let before : map (the_value ls) (take b vs) ≡ take (before_in ps x) x.values = sym (take-map (the_value ls) b vs) ∙ ap (take b) v ∙ ap (λ k. take k x.values) e in
    f
    ∙ ap (λ us. find_in ks (the_turn_at q us)) before
    ∙ ap (option_and_then (λ p. find_in ks (the_turn_at p (take (before_in ps x) x.values)))) a

pub own-values : (ls : List GroundList) (ps : List Place) (x : Turn) (vs : List Value) (b : ℕ) → map (the_value ls) vs ≡ x.values → b ≡ before_in ps x → map (the_value ls) (take (length vs - b) (drop b vs)) ≡ drop (before_in ps x) x.values
own-values ls ps x vs b v e =
    let rest : take (length vs - b) (drop b vs) ≡ drop b vs = take_all (length vs - b) (drop b vs) (omega (arith, length-drop b vs)) in
    ap (map (the_value ls)) rest ∙ sym (drop-map (the_value ls) b vs) ∙ ap (drop b) v ∙ ap (λ k. drop k x.values) e

module _ (ps : List Place) (ks : List (List ℕ)) (p : ℕ) (vs us : List tree.Value) (b : Bool) (r : Option ℕ) where
  found : us ≡ vs → r ≡ find_in ks (the_turn_at p us) → r ≡ find_in ks (the_turn_at p (values_list (values_tree vs)))
  found s e = e ∙ ap (λ ws. find_in ks (the_turn_at p ws)) (s ∙ sym (values_list-values_tree vs))

  pub made-found : b ≡ is_pi_in ps p → b ≡ true → us ≡ vs → r ≡ find_in ks (the_turn_at p us) → r ≡ introducer_in ps ks (mark_name (g_new_mark p (values_tree vs)))
  made-found d t s e = found s e ∙ ap (λ c. if c then find_in ks (the_turn_at p (values_list (values_tree vs))) else None) (sym t ∙ d)

  pub eigen-found : b ≡ is_delta_in ps p → b ≡ true → us ≡ vs → r ≡ find_in ks (the_turn_at p us) → r ≡ introducer_in ps ks (term_name (g_eigen p (values_tree vs)))
  eigen-found d t s e = found s e ∙ ap (λ c. if c then find_in ks (the_turn_at p (values_list (values_tree vs))) else None) (sym t ∙ d)

pub made-none : (ps : List Place) (ks : List (List ℕ)) (p : ℕ) (vs : List tree.Value) (b : Bool) → b ≡ is_pi_in ps p → b ≡ false → None ≡ introducer_in ps ks (mark_name (g_new_mark p (values_tree vs)))
made-none ps ks p vs b d t = ap (λ c. if c then find_in ks (the_turn_at p (values_list (values_tree vs))) else None) (sym t ∙ d)

pub eigen-none : (ps : List Place) (ks : List (List ℕ)) (p : ℕ) (vs : List tree.Value) (b : Bool) → b ≡ is_delta_in ps p → b ≡ false → None ≡ introducer_in ps ks (term_name (g_eigen p (values_tree vs)))
eigen-none ps ks p vs b d t = ap (λ c. if c then find_in ks (the_turn_at p (values_list (values_tree vs))) else None) (sym t ∙ d)

marks-map : (ls : List GroundList) (ms : List MarkAt) → map (λ m. mark_name (the_mark_at ls m)) ms ≡ map mark_name (map (the_mark_at ls) ms)
marks-map ls [] = refl
marks-map ls (m ∷ ms) = ap (λ ns. mark_name (the_mark_at ls m) ∷ ns) (marks-map ls ms)

-- the characters of a home, as the program finds them
pub home-marks : (P : Problem) (ls : List GroundList) (p : ℕ) (vs us : List tree.Value) (home : List MarkAt) → map (the_mark_at ls) home ≡ label_of P p us → us ≡ vs → map (λ m. mark_name (the_mark_at ls m)) home ≡ home_marks P (term_name (g_eigen p (values_tree vs)))
home-marks P ls p vs us home e s = marks-map ls home ∙ ap (map mark_name) e ∙ ap (λ ws. map mark_name (label_of P p ws)) (s ∙ sym (values_list-values_tree vs))

pub introducers-append : (ps : List Place) (ks : List (List ℕ)) (xs ys : List Name) → introducers_in ps ks (xs ++ ys) ≡ introducers_in ps ks xs ++ introducers_in ps ks ys
introducers-append ps ks xs ys = flat_map-append (λ n. listed (introducer_in ps ks n)) xs ys

-- ---- loops

pub drop-head : {A B : Type 0} (f : A → B) (Q : B → Type 0) (xs : List A) (i : ℕ) (x d : A) → i < length xs → x ≡ get_or xs i d → AllByRecursion Q (map f (drop i xs)) → Q (f x)
drop-head f Q xs i x d h e all = subst (λ y. Q (f y)) (sym e) (subst (λ ys. AllByRecursion Q (map f ys)) (drop_more xs i d h) all).0

pub drop-tail : {A B : Type 0} (f : A → B) (Q : B → Type 0) (xs : List A) (i : ℕ) (d : A) → i < length xs → AllByRecursion Q (map f (drop i xs)) → AllByRecursion Q (map f (drop (i + 1) xs))
drop-tail f Q xs i d h all = (subst (λ ys. AllByRecursion Q (map f ys)) (drop_more xs i d h) all).1

pub take-found : {A B : Type 0} (f : A → B) (g : B → Option ℕ) (xs : List A) (i : ℕ) (x d : A) (all more : List ℕ) (k : ℕ) → i < length xs → x ≡ get_or xs i d → map g (map f (take i xs)) ≡ map Some all → g (f x) ≡ Some k → more ≡ all ++ k ∷ [] → map g (map f (take (i + 1) xs)) ≡ map Some more
take-found f g xs i x d all more k h e m n p =
    ap (λ ys. map g (map f ys)) (take_more xs i d h)
    ∙ ap (map g) (map-append f (take i xs) (get_or xs i d ∷ []))
    ∙ map-append g (map f (take i xs)) (f (get_or xs i d) ∷ [])
    ∙ ap (λ ys. ys ++ g (f (get_or xs i d)) ∷ []) m
    ∙ ap (λ y. map Some all ++ g (f y) ∷ []) (sym e)
    ∙ ap (λ o. map Some all ++ o ∷ []) n
    ∙ sym (ap (map Some) p ∙ map-append Some all (k ∷ []))

zip-end : {A B : Type 0} (R : A → B → Type 0) (xs : List A) (ys : List B) (x : A) (y : B) → AllZip R xs ys → R x y → AllZip R (xs ++ x ∷ []) (ys ++ y ∷ [])
zip-end R [] [] x y h r = (r, tt)
zip-end R [] (z ∷ ys) x y h r = absurd h
zip-end R (z ∷ xs) [] x y h r = absurd h
zip-end R (z ∷ xs) (w ∷ ys) x y h r = (h.0, zip-end R xs ys x y h.1 r)

pub zip-step : {A B C : Type 0} (f : A → B) (R : B → C → Type 0) (xs : List A) (i : ℕ) (x d : A) (ys more : List C) (y : C) → i < length xs → x ≡ get_or xs i d → AllZip R (map f (take i xs)) ys → R (f x) y → more ≡ ys ++ y ∷ [] → AllZip R (map f (take (i + 1) xs)) more
zip-step f R xs i x d ys more y h e z r p =
    let whole : map f (take (i + 1) xs) ≡ map f (take i xs) ++ f x ∷ [] = ap (map f) (take_more xs i d h) ∙ map-append f (take i xs) (get_or xs i d ∷ []) ∙ ap (λ w. map f (take i xs) ++ f w ∷ []) (sym e) in
    subst (λ zs. AllZip R (map f (take (i + 1) xs)) zs) (sym p) (subst (λ ws. AllZip R ws (ys ++ y ∷ [])) (sym whole) (zip-end R (map f (take i xs)) ys (f x) y z r))
