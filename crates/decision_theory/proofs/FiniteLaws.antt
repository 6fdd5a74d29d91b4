-- A classical problem without a delta position below a gamma position: either a tableau is closed within the number of the atoms over
-- its constants and eigenvariables, or the formula is false where the quantifiers range over these.
use Rattle.std.proofs.Common.{◌≡◌, ◌⊎◌, ℕ, suc, ◌+◌, List, [], ◌∷◌, ◌++◌, Bool, true, false, not, ◌&&◌, ◌==◌, Some, IsTrue, if◌then◌else◌, refl, sym, ◌∙◌, ap, subst, inl, inr, arith, slice_get}
use Rattle.std.specs.List.{AllByRecursion, list_all}
use Rattle.std.specs.Option.{option_map_or}
use Rattle.std.proofs.lemmas.Bool.{and_parts, and_from, or_left, false≢true}
use Rattle.plain_laws.proofs.Every.{each-append, each-always}
use Rattle.calculus.specs.declared.sign.Sign.{Sign}
use Rattle.calculus.specs.declared.sign.Sign.TheVariants.{T, F}
use Rattle.calculus.specs.declared.setting.Domains.TheVariants.{Constant}
use Rattle.calculus.specs.declared.setting.Logic.TheVariants.{Classical}
use Rattle.calculus.specs.declared.kind.ModalPart.{ModalPart}
use Rattle.calculus.specs.declared.kind.ModalPart.TheVariants.{Plain}
use Rattle.calculus.specs.declared.kind.Shape.TheVariants.{Delta}
use Rattle.calculus.specs.Syntax.{Symbol, Formula, atom, neg, conj, disj, imp, all, ex, box, dia, Problem}
use Rattle.calculus.specs.Ground.{GroundTerm, g_fun, no_g_terms, values_list, values_tree}
use Rattle.calculus.specs.Equality.{mark_eq}
use Rattle.calculus.specs.Kinds.{other, modal_of, shape_of}
use Rattle.calculus.specs.Labels.{home_allows}
use Rattle.calculus.specs.Positions.{Node, node, size}
use Rattle.calculus.specs.Skolem.{is_admitted_value, is_function, is_constant_symbol, is_varying, has_constant, has_function, common_spares, label_of}
use Rattle.calculus.specs.ComputedInstances.{reached_at}
use Rattle.calculus.specs.Instances.{Spot, root_spot, down_by}
use Rattle.calculus.specs.Tableaux.{HasClosed}
use Rattle.calculus.proofs.InstanceLaws.{component-stands, WayDown, down-one, down-second, first-way, second-way, root-stands}
use Rattle.calculus.proofs.Members.{Among, among-left, among-right}
use Rattle.calculus.proofs.SpotLaws.{Stands, Halfway, is_gamma, eigen-proper}
use Rattle.decision_theory.specs.Ranging.{eigen_at, in_eigen, in_term, instances_over}
use Rattle.decision_theory.specs.Atoms.{atom_count}
use Rattle.decision_theory.specs.Finite.{has_no_delta, is_flat, eigens, constants, terms_of}
use Rattle.decision_theory.proofs.RangeLaws.{HasEigens, IsTermOf, IsRefutedOver, decided_over}

-- ---- the list has the eigenvariables that are reached

no-delta-has : (U : List GroundTerm) (f : Formula) (c : Spot) (s : Sign) → IsTrue (has_no_delta s f) → HasEigens U c s f
no-delta-has U (atom p ts) c s h = tt
no-delta-has U (neg a) c s h = no-delta-has U a (down_by 1 c) (other s) h
no-delta-has U (conj a b) c s h = let p = and_parts (has_no_delta s a) (has_no_delta s b) h in (no-delta-has U a (down_by 1 c) s p.0, no-delta-has U b (down_by (suc (size a)) c) s p.1)
no-delta-has U (disj a b) c s h = let p = and_parts (has_no_delta s a) (has_no_delta s b) h in (no-delta-has U a (down_by 1 c) s p.0, no-delta-has U b (down_by (suc (size a)) c) s p.1)
no-delta-has U (imp a b) c s h = let p = and_parts (has_no_delta (other s) a) (has_no_delta s b) h in (no-delta-has U a (down_by 1 c) (other s) p.0, no-delta-has U b (down_by (suc (size a)) c) s p.1)
no-delta-has U (all a) c T h = each-always (λ t. HasEigens U (in_term c t) T a) U (λ t. no-delta-has U a (in_term c t) T h)
no-delta-has U (all a) c F h = absurd (false≢true h)
no-delta-has U (ex a) c T h = absurd (false≢true h)
no-delta-has U (ex a) c F h = each-always (λ t. HasEigens U (in_term c t) F a) U (λ t. no-delta-has U a (in_term c t) F h)
no-delta-has U (box a) c s h = absurd (false≢true h)
no-delta-has U (dia a) c s h = absurd (false≢true h)

pub flat-has : (U : List GroundTerm) (f : Formula) (c : Spot) (s : Sign) → IsTrue (is_flat s f) → ((t : GroundTerm) → Among (eigens c s f) t → Among U t) → HasEigens U c s f
flat-has U (atom p ts) c s h g = tt
flat-has U (neg a) c s h g = flat-has U a (down_by 1 c) (other s) h g
flat-has U (conj a b) c s h g = let p = and_parts (is_flat s a) (is_flat s b) h in
    let xs = eigens (down_by 1 c) s a in let ys = eigens (down_by (suc (size a)) c) s b in
    (flat-has U a (down_by 1 c) s p.0 (λ t k. g t (among-left xs ys t k)), flat-has U b (down_by (suc (size a)) c) s p.1 (λ t k. g t (among-right xs ys t k)))
flat-has U (disj a b) c s h g = let p = and_parts (is_flat s a) (is_flat s b) h in
    let xs = eigens (down_by 1 c) s a in let ys = eigens (down_by (suc (size a)) c) s b in
    (flat-has U a (down_by 1 c) s p.0 (λ t k. g t (among-left xs ys t k)), flat-has U b (down_by (suc (size a)) c) s p.1 (λ t k. g t (among-right xs ys t k)))
flat-has U (imp a b) c s h g = let p = and_parts (is_flat (other s) a) (is_flat s b) h in
    let xs = eigens (down_by 1 c) (other s) a in let ys = eigens (down_by (suc (size a)) c) s b in
    (flat-has U a (down_by 1 c) (other s) p.0 (λ t k. g t (among-left xs ys t k)), flat-has U b (down_by (suc (size a)) c) s p.1 (λ t k. g t (among-right xs ys t k)))
flat-has U (all a) c T h g = no-delta-has U (all a) c T h
flat-has U (all a) c F h g = (g (eigen_at c) (inl refl), flat-has U a (in_eigen c) F h (λ t k. g t (inr k)))
flat-has U (ex a) c T h g = (g (eigen_at c) (inl refl), flat-has U a (in_eigen c) T h (λ t k. g t (inr k)))
flat-has U (ex a) c F h g = no-delta-has U (ex a) c F h
flat-has U (box a) c s h g = absurd (false≢true h)
flat-has U (dia a) c s h g = absurd (false≢true h)

-- ---- its terms are allowed

plain-halfway : (P : Problem) (before : List Node) (c : Spot) (s : Sign) (f : Formula) (m : ModalPart) → m ≡ Plain → Stands P before c s f → Halfway P before c s f m
plain-halfway P before c s f m e h = subst (Halfway P before c s f) (sym e) (record { in_way = h.in_way; comes = λ rest. (reached_at c rest, h.comes rest, refl, refl) })

below : (P : Problem) (before : List Node) (c : Spot) (s : Sign) (f : Formula) → modal_of P.setting.logic s f ≡ Plain → is_gamma (shape_of s f) ≡ false → Stands P before c s f → (k : ℕ) (r : Sign) (g : Formula) (env : List GroundTerm) → WayDown c.position s f k r g → Stands P (before ++ node c.position s f ∷ []) (record { position = c.position + k; label = c.label; taken = c.taken; env = env }) r g
below P before c s f plain no_gamma h k r g env down = component-stands P before c s f (plain-halfway P before c s f (modal_of P.setting.logic s f) plain h) no_gamma k r g env down

eigen-of : (P : Problem) → P.setting.domains ≡ Constant → (before : List Node) (c : Spot) (s : Sign) (f : Formula) → modal_of P.setting.logic s f ≡ Plain → shape_of s f ≡ Delta → IsTrue (list_all (is_admitted_value P) c.taken) → Stands P before c s f → IsTermOf P [] (eigen_at c)
eigen-of P d before c s f plain delta taken h = (eigen-proper P before c s f (plain-halfway P before c s f (modal_of P.setting.logic s f) plain h) delta taken, ap (λ x. home_allows mark_eq x (label_of P c.position (values_list (values_tree c.taken))) []) d)

is_two_gamma : (s : Sign) (a b : Formula) → (is_gamma (shape_of s (conj a b)) ≡ false) × (is_gamma (shape_of s (disj a b)) ≡ false) × (is_gamma (shape_of s (imp a b)) ≡ false)
is_two_gamma F a b = (refl, refl, refl)
is_two_gamma T a b = (refl, refl, refl)

eigens-allowed : (P : Problem) → P.setting.logic ≡ Classical → P.setting.domains ≡ Constant → (f : Formula) (before : List Node) (c : Spot) (s : Sign) → IsTrue (list_all (is_admitted_value P) c.taken) → Stands P before c s f → AllByRecursion (IsTermOf P []) (eigens c s f)
eigens-allowed P e d (atom p ts) before c s k h = tt
eigens-allowed P e d (neg a) before c s k h =
    let plain : modal_of P.setting.logic s (neg a) ≡ Plain = ap (λ l. modal_of l s (neg a)) e in
    eigens-allowed P e d a (before ++ node c.position s (neg a) ∷ []) (down_by 1 c) (other s) k (below P before c s (neg a) plain refl h 1 (other s) a c.env (down-one c.position s (other s) (neg a) a (λ n lt. (omega arith, refl))))
eigens-allowed P e d (conj a b) before c s k h =
    let plain : modal_of P.setting.logic s (conj a b) ≡ Plain = ap (λ l. modal_of l s (conj a b)) e in
    let next = before ++ node c.position s (conj a b) ∷ [] in
    each-append (IsTermOf P []) (eigens (down_by 1 c) s a) (eigens (down_by (suc (size a)) c) s b)
    (eigens-allowed P e d a next (down_by 1 c) s k (below P before c s (conj a b) plain (is_two_gamma s a b).0 h 1 s a c.env (down-one c.position s s (conj a b) a (λ n lt. (omega arith, first-way c.position s s s (conj a b) a b n lt)))))
    (eigens-allowed P e d b next (down_by (suc (size a)) c) s k (below P before c s (conj a b) plain (is_two_gamma s a b).0 h (suc (size a)) s b c.env (down-second c.position s s (conj a b) a b refl (λ n. second-way c.position s s s (conj a b) a b n))))
eigens-allowed P e d (disj a b) before c s k h =
    let plain : modal_of P.setting.logic s (disj a b) ≡ Plain = ap (λ l. modal_of l s (disj a b)) e in
    let next = before ++ node c.position s (disj a b) ∷ [] in
    each-append (IsTermOf P []) (eigens (down_by 1 c) s a) (eigens (down_by (suc (size a)) c) s b)
    (eigens-allowed P e d a next (down_by 1 c) s k (below P before c s (disj a b) plain (is_two_gamma s a b).1 h 1 s a c.env (down-one c.position s s (disj a b) a (λ n lt. (omega arith, first-way c.position s s s (disj a b) a b n lt)))))
    (eigens-allowed P e d b next (down_by (suc (size a)) c) s k (below P before c s (disj a b) plain (is_two_gamma s a b).1 h (suc (size a)) s b c.env (down-second c.position s s (disj a b) a b refl (λ n. second-way c.position s s s (disj a b) a b n))))
eigens-allowed P e d (imp a b) before c s k h =
    let plain : modal_of P.setting.logic s (imp a b) ≡ Plain = ap (λ l. modal_of l s (imp a b)) e in
    let next = before ++ node c.position s (imp a b) ∷ [] in
    each-append (IsTermOf P []) (eigens (down_by 1 c) (other s) a) (eigens (down_by (suc (size a)) c) s b)
    (eigens-allowed P e d a next (down_by 1 c) (other s) k (below P before c s (imp a b) plain (is_two_gamma s a b).2 h 1 (other s) a c.env (down-one c.position s (other s) (imp a b) a (λ n lt. (omega arith, first-way c.position s (other s) s (imp a b) a b n lt)))))
    (eigens-allowed P e d b next (down_by (suc (size a)) c) s k (below P before c s (imp a b) plain (is_two_gamma s a b).2 h (suc (size a)) s b c.env (down-second c.position s s (imp a b) a b refl (λ n. second-way c.position s (other s) s (imp a b) a b n))))
eigens-allowed P e d (all a) before c T k h = tt
eigens-allowed P e d (all a) before c F k h =
    let plain : modal_of P.setting.logic F (all a) ≡ Plain = ap (λ l. modal_of l F (all a)) e in
    (eigen-of P d before c F (all a) plain refl k h, eigens-allowed P e d a (before ++ node c.position F (all a) ∷ []) (in_eigen c) F k (below P before c F (all a) plain refl h 1 F a (eigen_at c ∷ c.env) (down-one c.position F F (all a) a (λ n lt. (omega arith, refl)))))
eigens-allowed P e d (ex a) before c T k h =
    let plain : modal_of P.setting.logic T (ex a) ≡ Plain = ap (λ l. modal_of l T (ex a)) e in
    (eigen-of P d before c T (ex a) plain refl k h, eigens-allowed P e d a (before ++ node c.position T (ex a) ∷ []) (in_eigen c) T k (below P before c T (ex a) plain refl h 1 T a (eigen_at c ∷ c.env) (down-one c.position T T (ex a) a (λ n lt. (omega arith, refl)))))
eigens-allowed P e d (ex a) before c F k h = tt
eigens-allowed P e d (box a) before c s k h = tt
eigens-allowed P e d (dia a) before c s k h = tt

spares-common : (P : Problem) → P.setting.domains ≡ Constant → IsTrue (common_spares P)
spares-common P d = or_left (not (is_varying P.setting.domains)) (has_constant P) (ap (λ x. not (is_varying x)) d)

constants-allowed : (P : Problem) → P.setting.domains ≡ Constant → (k : ℕ) (ss : List Symbol) → ((i : ℕ) → slice_get P.symbols (k + i) ≡ slice_get ss i) → AllByRecursion (IsTermOf P []) (constants k ss)
constants-allowed P d k [] h = tt
constants-allowed P d k (s ∷ ss) h = by (is_constant_symbol s) refl (constants-allowed P d (suc k) ss (λ i. let e : suc k + i ≡ k + suc i = omega arith in ap (slice_get P.symbols) e ∙ h (suc i)))
  where
    here : slice_get P.symbols k ≡ Some s
    here = let e : k ≡ k + 0 = omega arith in ap (slice_get P.symbols) e ∙ h 0

    by : (b : Bool) → is_constant_symbol s ≡ b → AllByRecursion (IsTermOf P []) (constants (suc k) ss) → AllByRecursion (IsTermOf P []) (if b then g_fun k no_g_terms ∷ constants (suc k) ss else constants (suc k) ss)
    by true e rest =
        let is : has_function P.symbols k 0 ≡ true = ap (λ o. option_map_or (λ (x : Symbol). is_function x.class && x.arity == 0) o false) here ∙ e in
        ((and_from (has_function P.symbols k 0) true is refl, spares-common P d), rest)
    by false e rest = rest

pub terms-allowed : (P : Problem) → P.setting.logic ≡ Classical → P.setting.domains ≡ Constant → AllByRecursion (IsTermOf P []) (terms_of P)
terms-allowed P e d = ((refl, spares-common P d), each-append (IsTermOf P []) (constants 0 P.symbols) (eigens root_spot F P.formula) (constants-allowed P d 0 P.symbols (λ i. let q : 0 + i ≡ i = omega arith in ap (slice_get P.symbols) q)) (eigens-allowed P e d P.formula [] root_spot F refl (root-stands P)))

-- ---- the decision

pub decided_flat : (P : Problem) → P.setting.logic ≡ Classical → P.setting.domains ≡ Constant → IsTrue (is_flat F P.formula) → HasClosed P (atom_count (instances_over (terms_of P) P)) ⊎ IsRefutedOver (terms_of P) P
decided_flat P e d flat = decided_over P (terms_of P) e (terms-allowed P e d) (flat-has (terms_of P) P.formula root_spot F flat (λ t k. inr (among-right (constants 0 P.symbols) (eigens root_spot F P.formula) t k)))
