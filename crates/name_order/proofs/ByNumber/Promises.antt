-- From what the parts of the program compute to what is promised of the whole.
use Rattle.std.proofs.Common.{◌≡◌, ◌↔◌, ℕ, zero, suc, List, [], ◌∷◌, ◌++◌, map, drop, length, IsTrue, IsSome, Option, Some, Contains, slice_get, refl, sym, ◌∙◌, ap, subst}
use Rattle.std.specs.List.{AllByRecursion, AllZip, flat_map}
use Rattle.plain_laws.proofs.Options.{none_some, some_injective}
use Rattle.calculus.specs.Instances.{Turn}
use Rattle.calculus.specs.Syntax.{Problem}
use Rattle.calculus.specs.Tableaux.{Tableau, instances, is_closed}
use Rattle.calculus.proofs.Members.{Among, contains-among, among-contains, among-joined, joined-among}
use Rattle.conversion_theory.specs.Numbering.{name_eq, IsNumbering}
use Rattle.conversion_theory.specs.Turns.{Name, IsAgenda, names_of_tableau, turns_of, turns_of_instance}
use Rattle.conversion_theory.proofs.DepthAgenda.{numbering-by_depth}
use Rattle.conversion_theory.proofs.NumberLaws.{name_eq-tells}
use Rattle.formula_core.specs.GroundLists.{GroundList}
use Rattle.name_order.specs.Arranged.{joined}
use Rattle.name_order.specs.ByNumber.Order.{IsArranged, AreOrdered}
use Rattle.name_order.specs.ByNumber.Naming.{AreGathered}
use Rattle.name_order.specs.ByNumber.ReachedView.{the_all, the_keys}
use Rattle.name_order.specs.ByNumber.Waiting.{WaitFor}
use Rattle.name_order.specs.Found.{before_in, find_in, introducer_in, introducers_in, listed, parent_in}
use Rattle.name_order.specs.Keeping.{keep_all}
use Rattle.name_order.specs.Mentioned.{gathered, mentioned_in, names_by, names_in_turn, with_homes}
use Rattle.name_order.specs.Places.{Place, places_of}
use Rattle.name_order.specs.Prerequisites.{IsOrder, ParentsTell, WaitsTell}
use Rattle.name_order.specs.Walks.{turns_by}
use Rattle.name_order.specs.Words.{words_of_turn}
use Rattle.name_order.specs.declared.reached.Reached.{Reached}
use Rattle.name_order.proofs.GuideLaws.{all-known, found-lists}
use Rattle.name_order.proofs.KeepingLaws.{distinct-once}
use Rattle.name_order.proofs.MentionLaws.{names-same, same-kept}
use Rattle.name_order.proofs.ParentLaws.{tells-at, tells-parents, waits-is}
use Rattle.name_order.proofs.Promises.{all-introduced, joined-map, map-map}
use Rattle.name_order.proofs.WalkTurns.{closed-lists}
use Rattle.name_order.proofs.ByNumber.OrderLaws.{arranged-agenda, arranged-has}

pub the-agenda : (P : Problem) (d : ℕ) (t : Tableau) → IsTrue (is_closed P d t) → (lists : List (List Turn)) (agenda : List Turn) → lists ≡ map (turns_by P) (instances t) → IsArranged (joined lists) agenda → IsAgenda P t agenda
the-agenda P d t closed lists agenda e h = arranged-agenda P d t closed agenda (subst (λ ts. IsArranged ts agenda) (ap joined e ∙ joined-map (turns_by P) (instances t)) h)

pub gathered-ordered : (P : Problem) (ps : List Place) (xs : List Turn) (names all : List Name) → AreGathered P ps xs names → AreOrdered names all → AreOrdered (gathered P ps xs) all
gathered-ordered P ps xs names all g h = record {
  all = λ n. (λ k. (h.all n).0 ((g.all n).0 k), λ k. (g.all n).1 ((h.all n).1 k));
  once = h.once;
  in_order = h.in_order;
}

pub the-numbering : (P : Problem) (t : Tableau) (agenda : List Turn) (names : List Name) → IsAgenda P t agenda → AreOrdered (gathered P (places_of P) agenda) names → IsNumbering P t names
the-numbering P t agenda names ag h = numbering-by_depth P t names (λ n. (λ k. (h.all n).0 (into n k), λ k. out n ((h.all n).1 k))) (distinct-once name_eq name_eq-tells names h.once) h.in_order
  where
    introduced : gathered P (places_of P) agenda ≡ names_by P agenda
    introduced = ap (λ ns. with_homes P (keep_all name_eq [] (flat_map names_in_turn agenda)) ++ ns) (all-introduced P agenda)

    same : (n : Name) → Among (keep_all name_eq [] (names_by P agenda)) n ↔ Among (names_of_tableau P t) n
    same n = names-same P (turns_of P t) agenda (λ x. (
      λ k. among-contains agenda x ((ag.all x).0 (contains-among (turns_of P t) x k)),
      λ k. among-contains (turns_of P t) x ((ag.all x).1 (contains-among agenda x k)),
    )) n

    into : (n : Name) → Contains (names_of_tableau P t) n → Contains (gathered P (places_of P) agenda) n
    into n k = subst (λ ns. Contains ns n) (sym introduced) (contains-among (names_by P agenda) n ((same-kept (names_by P agenda) n).0 ((same n).1 (among-contains (names_of_tableau P t) n k))))

    out : (n : Name) → Contains (gathered P (places_of P) agenda) n → Contains (names_of_tableau P t) n
    out n k = contains-among (names_of_tableau P t) n ((same n).0 ((same-kept (names_by P agenda) n).1 (among-contains (names_by P agenda) n (subst (λ ns. Contains ns n) introduced k))))

-- each turn is found
pub the-known : (ls : List GroundList) (lists : List (List Turn)) (agenda : List Reached) → IsArranged (joined lists) (the_all ls agenda) → AllByRecursion (λ ts. AllByRecursion (λ x. IsSome (find_in (the_keys ls agenda) x)) ts) lists
the-known ls lists agenda h = all-known (the_all ls agenda) (the_keys ls agenda) lists refl (arranged-has (joined lists) (the_all ls agenda) h)

pub the-order : (P : Problem) (d : ℕ) (t : Tableau) → IsTrue (is_closed P d t) → (lists : List (List Turn)) (agenda : List Turn) (order : List (List ℕ)) → lists ≡ map (turns_by P) (instances t) → map (map (find_in (map words_of_turn agenda))) lists ≡ map (map Some) order → IsOrder P t agenda order
the-order P d t closed lists agenda order e g = found-lists agenda (map words_of_turn agenda) refl lists order g ∙ ap (map (map Some)) (e ∙ closed-lists P d t closed) ∙ map-map (map Some) (turns_of_instance P) (instances t)

pub the-parents : (P : Problem) (t : Tableau) (agenda : List Turn) (places : List Place) (parents : List (Option ℕ)) → IsAgenda P t agenda → places ≡ places_of P → parents ≡ map (parent_in places (map words_of_turn agenda)) agenda → ParentsTell P agenda parents
the-parents P t agenda places parents ag e g = tells-parents P t agenda (map words_of_turn agenda) refl ag parents (g ∙ ap (λ ps. map (parent_in ps (map words_of_turn agenda)) agenda) e)

-- ---- what turns wait for

zip-length : {A B : Type 0} (R : A → B → Type 0) (xs : List A) (ys : List B) → AllZip R xs ys → length ys ≡ length xs
zip-length R [] [] h = refl
zip-length R [] (y ∷ ys) h = absurd h
zip-length R (x ∷ xs) [] h = absurd h
zip-length R (x ∷ xs) (y ∷ ys) h = ap suc (zip-length R xs ys h.1)

zip-at : {A B : Type 0} (R : A → B → Type 0) (xs : List A) (ys : List B) (i : ℕ) (x : A) (y : B) → AllZip R xs ys → slice_get xs i ≡ Some x → slice_get ys i ≡ Some y → R x y
zip-at R [] ys i x y h e g = absurd (none_some e)
zip-at R (a ∷ xs) [] i x y h e g = absurd h
zip-at R (a ∷ xs) (b ∷ ys) zero x y h e g = subst (λ z. R z y) (some_injective a e) (subst (R a) (some_injective b g) h.0)
zip-at R (a ∷ xs) (b ∷ ys) (suc i) x y h e g = zip-at R xs ys i x y h.1 e g

-- the turns that introduce names are those that introduce them once each
once-each : (ps : List Place) (ks : List (List ℕ)) (ns : List Name) (k : ℕ) → Among (introducers_in ps ks ns) k ↔ Among (introducers_in ps ks (keep_all name_eq [] ns)) k
once-each ps ks ns k = (
  λ h. (let r = among-joined (λ n. listed (introducer_in ps ks n)) ns k h in joined-among (λ n. listed (introducer_in ps ks n)) (keep_all name_eq [] ns) r.0 k ((same-kept ns r.0).1 r.1) r.2),
  λ h. (let r = among-joined (λ n. listed (introducer_in ps ks n)) (keep_all name_eq [] ns) k h in joined-among (λ n. listed (introducer_in ps ks n)) ns r.0 k ((same-kept ns r.0).0 r.1) r.2),
)

pub the-waits : (P : Problem) (t : Tableau) (agenda : List Turn) (places : List Place) (parents : List (Option ℕ)) (waits : List (List ℕ)) → IsAgenda P t agenda → places ≡ places_of P → parents ≡ map (parent_in places (map words_of_turn agenda)) agenda → AllZip (WaitFor P places (map words_of_turn agenda)) agenda waits → WaitsTell P agenda parents waits
the-waits P t agenda places parents waits ag e g h = record {
  count = zip-length (WaitFor P places keys) agenda waits h;
  each = λ i x p w a b c k. (
      let there : WaitFor P (places_of P) keys x w = zip-at (WaitFor P (places_of P) keys) agenda waits i x w own a c in
      let told = waits-is P t agenda keys refl ag x p k (tells-at P t agenda keys refl ag parents given i x p b a) in
      let ns = mentioned_in P (drop (before_in (places_of P) x) x.values) in (
        λ m. told.0 ((once-each (places_of P) keys ns k).0 (among-contains (introducers_in (places_of P) keys ns) k ((there k).0 m))),
        λ m. (there k).1 (contains-among (introducers_in (places_of P) keys ns) k ((once-each (places_of P) keys ns k).1 (told.1 m))),
      ));
}
  where
    keys : List (List ℕ)
    keys = map words_of_turn agenda

    own : AllZip (WaitFor P (places_of P) keys) agenda waits
    own = subst (λ ps. AllZip (WaitFor P ps keys) agenda waits) e h

    given : parents ≡ map (parent_in (places_of P) keys) agenda
    given = g ∙ ap (λ ps. map (parent_in ps keys) agenda) e
