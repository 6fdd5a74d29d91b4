-- Copies of lists: one atom more, one gamma term more, and one list behind another.
use Rattle.std.proofs.Common.{◌≡◌, ◌++◌, ◌∷◌, ◌&&◌, [], IsTrue, length, ℕ, List, true, refl, sym, ap, ◌∙◌, subst, append_assoc, nat_le, map, take, drop, ◌-◌, ◌+◌, ◌<◌, zero, suc, Bool, Some, option_map, slice_get, slice_index_or, ap₂, arith, append-nil}
use Rattle.std.specs.List.{list_all}
use Rattle.std.specs.Prelude.{remove}
use Rattle.std.proofs.lemmas.Bool.{and_from, and_parts}
use Rattle.std.proofs.lemmas.List.{take_rest}
use Rattle.std.proofs.lemmas.Option.{slice_get_read, slice_get-map}
use Rattle.plain_laws.proofs.Every.{all-append}
use Rattle.plain_laws.proofs.Lists.{map-drop, map-take, map-length}
use Rattle.store_theory.specs.Bindings.{AddsOver, NamesOver}
use Rattle.store_theory.specs.Patterns as tree
use Rattle.store_theory.specs.Patterns.{AreAtomCopies, AreCopies, AreGammaCopies, CopiedClause, IsAtomCopy, IsClauseCopy, IsGammaCopy, atom_is_from, clause_fits, clause_is_from, gamma_is_from, patterns_tree}
use Rattle.calculus.specs.declared.sort.Sort.TheVariants.{StringSort}
use Rattle.store_theory.specs.Stores.{GammaCell, Store, has_sort_at}
use Rattle.store_theory.specs.Systems.{CellAtom, is_cell_atom, is_gamma_cell}
use Rattle.store_theory.proofs.PatternLaws.{Grows-built, atoms-more, gammas-more, grown-atoms, grown-gammas, grown-cell_atoms, grown-copies, grown-gamma_cells, grown-sorts}
use Rattle.term_store.specs.Copying.{AtomsCopied, with_literals}
use Rattle.term_store.proofs.OwnLaws.{over-both, own-append, own-later}

-- ---- atoms

pub atoms-none : (s : Store) (vs : List ℕ) (n : ℕ) (before : List CellAtom) → AtomsCopied s vs n before before []
atoms-none s vs n before = record { more = []; appended = sym (append-nil before); copies = refl; sorts = refl; own = λ base l h. refl }

pub atom-more : (old s t : Store) (vs : List ℕ) (before items after : List CellAtom) (atoms : List tree.PatternAtom) (a : tree.PatternAtom) (c : CellAtom) → AtomsCopied s vs (length old.cells) before items atoms → AddsOver vs old s → AddsOver vs s t → IsAtomCopy t vs a c → IsTrue (is_cell_atom t c) → NamesOver vs (length s.cells) (λ base. atom_is_from base c) → after ≡ items ++ c ∷ [] → AtomsCopied t vs (length old.cells) before after (atoms ++ a ∷ [])
atom-more old s t vs before items after atoms a c w g h k m o e = record {
  more = w.more ++ c ∷ [];
  appended = e ∙ ap (λ xs. xs ++ c ∷ []) w.appended ∙ append_assoc before w.more (c ∷ []);
  copies = atoms-more t vs atoms a w.more c (grown-atoms s t vs atoms w.more (Grows-built s t h.built) w.copies) k;
  sorts = all-append (is_cell_atom t) w.more (c ∷ []) (grown-cell_atoms s t w.more (Grows-built s t h.built) w.sorts) (and_from (is_cell_atom t c) true m refl);
  own = own-append CellAtom atom_is_from vs (length old.cells) w.more (c ∷ []) w.own (λ base l f. and_from (atom_is_from base c) true (own-later vs old s (λ b. atom_is_from b c) (Grows-built old s g.built) o base l f) refl);
}

atoms-append : (s : Store) (vs : List ℕ) (xs ys : List tree.PatternAtom) (cs ds : List CellAtom) → AreAtomCopies s vs xs cs → AreAtomCopies s vs ys ds → AreAtomCopies s vs (xs ++ ys) (cs ++ ds)
atoms-append s vs [] ys cs ds h k = subst (λ zs. AreAtomCopies s vs ys (zs ++ ds)) (sym h) k
atoms-append s vs (x ∷ xs) ys cs ds (c, es, e, h, t) k = (c, es ++ ds, ap (λ zs. zs ++ ds) e, h, atoms-append s vs xs ys es ds t k)

-- atoms that were copied later
pub atoms-both : (old s t : Store) (vs : List ℕ) (first mid last : List CellAtom) (xs ys : List tree.PatternAtom) → AtomsCopied s vs (length old.cells) first mid xs → AddsOver vs old s → AtomsCopied t vs (length s.cells) mid last ys → AddsOver vs s t → AtomsCopied t vs (length old.cells) first last (xs ++ ys)
atoms-both old s t vs first mid last xs ys w g v h = record {
  more = w.more ++ v.more;
  appended = v.appended ∙ ap (λ zs. zs ++ v.more) w.appended ∙ append_assoc first w.more v.more;
  copies = atoms-append t vs xs ys w.more v.more (grown-atoms s t vs xs w.more (Grows-built s t h.built) w.copies) v.copies;
  sorts = all-append (is_cell_atom t) w.more v.more (grown-cell_atoms s t w.more (Grows-built s t h.built) w.sorts) v.sorts;
  own = own-append CellAtom atom_is_from vs (length old.cells) w.more v.more w.own (own-later vs old s (λ base. list_all (atom_is_from base) v.more) (Grows-built old s g.built) v.own);
}

-- ---- gamma terms

pub record GammasCopied (s : Store) (vs : List ℕ) (n : ℕ) (copied : List GammaCell) (gammas : List tree.PatternGamma) : Type 0 where
  pub copies : AreGammaCopies s vs gammas copied
  pub sorts : IsTrue (list_all (is_gamma_cell s) copied)
  pub own : NamesOver vs n (λ base. list_all (gamma_is_from base) copied)

pub gammas-none : (s : Store) (vs : List ℕ) (n : ℕ) → GammasCopied s vs n [] []
gammas-none s vs n = record { copies = refl; sorts = refl; own = λ base l h. refl }

pub gamma-more : (old s t : Store) (vs : List ℕ) (items after : List GammaCell) (gammas : List tree.PatternGamma) (a : tree.PatternGamma) (c : GammaCell) → GammasCopied s vs (length old.cells) items gammas → AddsOver vs old s → AddsOver vs s t → IsGammaCopy t vs a c → IsTrue (is_gamma_cell t c) → NamesOver vs (length s.cells) (λ base. gamma_is_from base c) → after ≡ items ++ c ∷ [] → GammasCopied t vs (length old.cells) after (gammas ++ a ∷ [])
gamma-more old s t vs items after gammas a c w g h k m o e = subst (λ xs. GammasCopied t vs (length old.cells) xs (gammas ++ a ∷ [])) (sym e) (record {
  copies = gammas-more t vs gammas a items c (grown-gammas s t vs gammas items (Grows-built s t h.built) w.copies) k;
  sorts = all-append (is_gamma_cell t) items (c ∷ []) (grown-gamma_cells s t items (Grows-built s t h.built) w.sorts) (and_from (is_gamma_cell t c) true m refl);
  own = own-append GammaCell gamma_is_from vs (length old.cells) items (c ∷ []) w.own (λ base l f. and_from (gamma_is_from base c) true (own-later vs old s (λ b. gamma_is_from b c) (Grows-built old s g.built) o base l f) refl);
})

-- ---- a clause of what was copied one after the other

pub record ClauseMade (old new : Store) (vs : List ℕ) (t : tree.Template) (c : CopiedClause) : Type 0 where
  pub copy : IsClauseCopy new vs t c
  pub sorts : IsTrue (clause_fits new c)
  pub own : NamesOver vs (length old.cells) (λ base. clause_is_from base c)
  pub adds : AddsOver vs old new

pub clause-made : (old a b d new : Store) (vs : List ℕ) (t : tree.Template) (xs ys : List tree.PatternAtom) (none mid last : List CellAtom) (strings : List ℕ) (gammas : List GammaCell) → none ≡ []
    → AtomsCopied a vs (length old.cells) none mid xs → AddsOver vs old a → AtomsCopied b vs (length a.cells) mid last ys → AddsOver vs a b
    → AreCopies d vs (patterns_tree t.strings) strings → IsTrue (list_all (has_sort_at d StringSort) strings) → NamesOver vs (length b.cells) (λ base. list_all (nat_le base) strings) → AddsOver vs b d
    → AreGammaCopies new vs t.gammas gammas → IsTrue (list_all (is_gamma_cell new) gammas) → NamesOver vs (length d.cells) (λ base. list_all (gamma_is_from base) gammas) → AddsOver vs d new
    → ClauseMade old new vs (with_literals (xs ++ ys) t) (record { literals = last; strings = strings; pis = t.pis; gammas = gammas })
clause-made old a b d new vs t xs ys none mid last strings gammas e f fa g gb h hs ho hd k ks ko kn =
    let w = atoms-both old a b vs none mid last xs ys f fa g gb in
    let same : last ≡ w.more = w.appended ∙ ap (λ zs. zs ++ w.more) e in
    let ob = over-both vs old a b fa gb in
    let od = over-both vs old b d ob hd in
    let bn = Grows-built b new (over-both vs b d new hd kn).built in
    let dn = Grows-built d new kn.built in
    record {
      copy = record {
        literals = grown-atoms b new vs (xs ++ ys) last bn (subst (AreAtomCopies b vs (xs ++ ys)) (sym same) w.copies);
        strings = grown-copies d new vs (patterns_tree t.strings) strings dn h;
        pis = refl;
        gammas = k;
      };
      sorts = and_from (list_all (is_cell_atom new) last && list_all (has_sort_at new StringSort) strings) (list_all (is_gamma_cell new) gammas)
          (and_from (list_all (is_cell_atom new) last) (list_all (has_sort_at new StringSort) strings) (grown-cell_atoms b new last bn (subst (λ zs. IsTrue (list_all (is_cell_atom b) zs)) (sym same) w.sorts)) (grown-sorts d new StringSort strings dn hs)) ks;
      own = λ base l m. and_from (list_all (atom_is_from base) last && list_all (nat_le base) strings) (list_all (gamma_is_from base) gammas)
          (and_from (list_all (atom_is_from base) last) (list_all (nat_le base) strings) (subst (λ zs. IsTrue (list_all (atom_is_from base) zs)) (sym same) (w.own base l m)) (own-later vs old b (λ x. list_all (nat_le x) strings) (Grows-built old b ob.built) ho base l m))
          (own-later vs old d (λ x. list_all (gamma_is_from x) gammas) (Grows-built old d od.built) ko base l m);
      adds = over-both vs old d new od kn;
    }

-- ---- one literal, and the others

pub literal-there : {X Y : Type 0} (f : X → Y) (items : List X) (ys : List Y) (k : ℕ) (x : X) → map f items ≡ ys → k < length ys → x ≡ slice_index_or items k x → slice_get ys k ≡ Some (f x)
literal-there f items ys k x e l h =
    let same : length items ≡ length ys = sym (map-length f items) ∙ ap length e in
    ap (λ zs. slice_get zs k) (sym e) ∙ slice_get-map f items k ∙ ap (option_map f) (slice_get_read items (length items) k x refl (omega (arith, l, same)) h)

pub all-front : {X Y : Type 0} (f : X → Y) (p : Y → Bool) (k : ℕ) (xs : List X) (ys : List Y) → map f xs ≡ ys → IsTrue (list_all p ys) → IsTrue (list_all p (map f (take k xs)))
all-front {X} {Y} f p k xs ys e h = by k xs (subst (λ zs. IsTrue (list_all p zs)) (sym e) h)
  where
    by : (k : ℕ) (xs : List X) → IsTrue (list_all p (map f xs)) → IsTrue (list_all p (map f (take k xs)))
    by zero xs h = refl
    by (suc k) [] h = refl
    by (suc k) (x ∷ xs) h = let a = and_parts (p (f x)) (list_all p (map f xs)) h in and_from (p (f x)) (list_all p (map f (take k xs))) a.0 (by k xs a.1)

pub all-back : {X Y : Type 0} (f : X → Y) (p : Y → Bool) (k : ℕ) (xs : List X) (ys : List Y) → map f xs ≡ ys → IsTrue (list_all p ys) → IsTrue (list_all p (map f (take (length xs - k) (drop k xs))))
all-back {X} {Y} f p k xs ys e h = subst (λ zs. IsTrue (list_all p (map f zs))) (sym (take_rest xs k)) (by k xs (subst (λ zs. IsTrue (list_all p zs)) (sym e) h))
  where
    by : (k : ℕ) (xs : List X) → IsTrue (list_all p (map f xs)) → IsTrue (list_all p (map f (drop k xs)))
    by zero xs h = h
    by (suc k) [] h = refl
    by (suc k) (x ∷ xs) h = by k xs (and_parts (p (f x)) (list_all p (map f xs)) h).1

pub other-literals : {X Y : Type 0} (f : X → Y) (k : ℕ) (xs : List X) (ys : List Y) → map f xs ≡ ys → map f (take k xs) ++ map f (take (length xs - (k + 1)) (drop (k + 1) xs)) ≡ remove ys k
other-literals f k xs ys e =
    let next : k + 1 ≡ suc k = omega arith in
    ap₂ ◌++◌ (map-take f k xs ∙ ap (take k) e) (ap (map f) (take_rest xs (k + 1)) ∙ map-drop f (k + 1) xs ∙ ap₂ drop next e)
