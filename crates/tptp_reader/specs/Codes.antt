-- The codes by which a check tells terms, formulas and items apart: different values have different codes.
use Rattle.std.specs.Prelude.{◌≡◌, ℕ, List, [], ◌∷◌, Some, None, refl}
use Rattle.std.specs.Coded.{Coded, coded_list}
use base.Stored.{Gv, gnil, gnum, gcons}
use Rattle.tptp_reader.specs.declared.source.ChainKind.{ChainKind}
use Rattle.tptp_reader.specs.declared.source.ChainKind.TheVariants.{And, Or}
use Rattle.tptp_reader.specs.declared.source.BinaryKind.{BinaryKind}
use Rattle.tptp_reader.specs.declared.source.BinaryKind.TheVariants.{Imp, If, Iff, Xor, Nor, Nand}
use Rattle.tptp_reader.specs.declared.item.ItemKind.{ItemKind}
use Rattle.tptp_reader.specs.declared.item.ItemKind.TheVariants.{Fof, Cnf, Qmf}
use Rattle.tptp_reader.specs.Sources.{Name, SourceTerm, variable, apply, SourceTerms, no_terms, more_terms, Source, atom, truth, falsity, equal, unequal, not, chain, binary, for_all, exists, nec, poss, Sources, no_sources, more_sources, Item, formula, include}

abbrev pub name_gv : Name → Gv
name_gv [] = gnil
name_gv (b ∷ bs) = gcons (gnum b) (name_gv bs)

pub name_gv-inj : (x y : Name) → name_gv x ≡ name_gv y → x ≡ y
name_gv-inj [] [] q = refl
name_gv-inj [] (y ∷ ys) q = cc
name_gv-inj (x ∷ xs) [] q = cc
name_gv-inj (x ∷ xs) (y ∷ ys) q = let e : name_gv xs ≡ name_gv ys = cc in let h = name_gv-inj xs ys e in cc

abbrev pub names_gv : List Name → Gv
names_gv [] = gnil
names_gv (b ∷ bs) = gcons (name_gv b) (names_gv bs)

pub names_gv-inj : (x y : List Name) → names_gv x ≡ names_gv y → x ≡ y
names_gv-inj [] [] q = refl
names_gv-inj [] (y ∷ ys) q = cc
names_gv-inj (x ∷ xs) [] q = cc
names_gv-inj (x ∷ xs) (y ∷ ys) q = let d : name_gv x ≡ name_gv y = cc in let k = name_gv-inj x y d in let e : names_gv xs ≡ names_gv ys = cc in let h = names_gv-inj xs ys e in cc

abbrev mutual
  pub term_gv : SourceTerm → Gv
  term_gv (variable x) = gcons (gnum 0) (name_gv x)
  term_gv (apply f xs) = gcons (gnum 1) (gcons (name_gv f) (terms_gv xs))

  pub terms_gv : SourceTerms → Gv
  terms_gv no_terms = gnil
  terms_gv (more_terms x xs) = gcons (term_gv x) (terms_gv xs)

mutual
  pub term_gv-inj : (x y : SourceTerm) → term_gv x ≡ term_gv y → x ≡ y
  term_gv-inj (variable n) (variable n') q = let e : name_gv n ≡ name_gv n' = cc in let h = name_gv-inj n n' e in cc
  term_gv-inj (variable n) _ q = cc
  term_gv-inj (apply n xs) (apply n' xs') q = let d : name_gv n ≡ name_gv n' = cc in let k = name_gv-inj n n' d in let e : terms_gv xs ≡ terms_gv xs' = cc in let h = terms_gv-inj xs xs' e in cc
  term_gv-inj (apply n xs) _ q = cc

  pub terms_gv-inj : (x y : SourceTerms) → terms_gv x ≡ terms_gv y → x ≡ y
  terms_gv-inj no_terms no_terms q = refl
  terms_gv-inj no_terms (more_terms y ys) q = cc
  terms_gv-inj (more_terms x xs) no_terms q = cc
  terms_gv-inj (more_terms x xs) (more_terms y ys) q = let e : term_gv x ≡ term_gv y = cc in let d : terms_gv xs ≡ terms_gv ys = cc in let h = term_gv-inj x y e in let k = terms_gv-inj xs ys d in cc

abbrev pub chain_gv : ChainKind → Gv
chain_gv And = gnum 0
chain_gv Or = gnum 1

pub chain_gv-inj : (x y : ChainKind) → chain_gv x ≡ chain_gv y → x ≡ y
chain_gv-inj And And q = refl
chain_gv-inj And Or q = cc
chain_gv-inj Or And q = cc
chain_gv-inj Or Or q = refl

abbrev pub binary_gv : BinaryKind → Gv
binary_gv Imp = gnum 0
binary_gv If = gnum 1
binary_gv Iff = gnum 2
binary_gv Xor = gnum 3
binary_gv Nor = gnum 4
binary_gv Nand = gnum 5

pub binary_gv-inj : (x y : BinaryKind) → binary_gv x ≡ binary_gv y → x ≡ y
binary_gv-inj Imp Imp q = refl
binary_gv-inj If If q = refl
binary_gv-inj Iff Iff q = refl
binary_gv-inj Xor Xor q = refl
binary_gv-inj Nor Nor q = refl
binary_gv-inj Nand Nand q = refl
binary_gv-inj Imp _ q = cc
binary_gv-inj If _ q = cc
binary_gv-inj Iff _ q = cc
binary_gv-inj Xor _ q = cc
binary_gv-inj Nor _ q = cc
binary_gv-inj Nand _ q = cc

abbrev mutual
  pub source_gv : Source → Gv
  source_gv (atom p ts) = gcons (gnum 0) (gcons (name_gv p) (terms_gv ts))
  source_gv truth = gcons (gnum 1) gnil
  source_gv falsity = gcons (gnum 2) gnil
  source_gv (equal s t) = gcons (gnum 3) (gcons (term_gv s) (term_gv t))
  source_gv (unequal s t) = gcons (gnum 4) (gcons (term_gv s) (term_gv t))
  source_gv (not a) = gcons (gnum 5) (source_gv a)
  source_gv (chain c bs) = gcons (gnum 6) (gcons (chain_gv c) (sources_gv bs))
  source_gv (binary c a b) = gcons (gnum 7) (gcons (binary_gv c) (gcons (source_gv a) (source_gv b)))
  source_gv (for_all xs a) = gcons (gnum 8) (gcons (names_gv xs) (source_gv a))
  source_gv (exists xs a) = gcons (gnum 9) (gcons (names_gv xs) (source_gv a))
  source_gv (nec a) = gcons (gnum 10) (source_gv a)
  source_gv (poss a) = gcons (gnum 11) (source_gv a)

  pub sources_gv : Sources → Gv
  sources_gv no_sources = gnil
  sources_gv (more_sources x xs) = gcons (source_gv x) (sources_gv xs)

mutual
  pub source_gv-inj : (x y : Source) → source_gv x ≡ source_gv y → x ≡ y
  source_gv-inj (atom p ts) (atom p' ts') q = let d : name_gv p ≡ name_gv p' = cc in let k = name_gv-inj p p' d in let e : terms_gv ts ≡ terms_gv ts' = cc in let h = terms_gv-inj ts ts' e in cc
  source_gv-inj (atom p ts) _ q = cc
  source_gv-inj truth truth q = refl
  source_gv-inj truth _ q = cc
  source_gv-inj falsity falsity q = refl
  source_gv-inj falsity _ q = cc
  source_gv-inj (equal s t) (equal s' t') q = let d : term_gv s ≡ term_gv s' = cc in let k = term_gv-inj s s' d in let e : term_gv t ≡ term_gv t' = cc in let h = term_gv-inj t t' e in cc
  source_gv-inj (equal s t) _ q = cc
  source_gv-inj (unequal s t) (unequal s' t') q = let d : term_gv s ≡ term_gv s' = cc in let k = term_gv-inj s s' d in let e : term_gv t ≡ term_gv t' = cc in let h = term_gv-inj t t' e in cc
  source_gv-inj (unequal s t) _ q = cc
  source_gv-inj (not a) (not a') q = let e : source_gv a ≡ source_gv a' = cc in let h = source_gv-inj a a' e in cc
  source_gv-inj (not a) _ q = cc
  source_gv-inj (chain c bs) (chain c' bs') q = let d : chain_gv c ≡ chain_gv c' = cc in let k = chain_gv-inj c c' d in let e : sources_gv bs ≡ sources_gv bs' = cc in let h = sources_gv-inj bs bs' e in cc
  source_gv-inj (chain c bs) _ q = cc
  source_gv-inj (binary c a b) (binary c' a' b') q = let d : binary_gv c ≡ binary_gv c' = cc in let k = binary_gv-inj c c' d in let e : source_gv a ≡ source_gv a' = cc in let h = source_gv-inj a a' e in let f : source_gv b ≡ source_gv b' = cc in let g = source_gv-inj b b' f in cc
  source_gv-inj (binary c a b) _ q = cc
  source_gv-inj (for_all xs a) (for_all xs' a') q = let d : names_gv xs ≡ names_gv xs' = cc in let k = names_gv-inj xs xs' d in let e : source_gv a ≡ source_gv a' = cc in let h = source_gv-inj a a' e in cc
  source_gv-inj (for_all xs a) _ q = cc
  source_gv-inj (exists xs a) (exists xs' a') q = let d : names_gv xs ≡ names_gv xs' = cc in let k = names_gv-inj xs xs' d in let e : source_gv a ≡ source_gv a' = cc in let h = source_gv-inj a a' e in cc
  source_gv-inj (exists xs a) _ q = cc
  source_gv-inj (nec a) (nec a') q = let e : source_gv a ≡ source_gv a' = cc in let h = source_gv-inj a a' e in cc
  source_gv-inj (nec a) _ q = cc
  source_gv-inj (poss a) (poss a') q = let e : source_gv a ≡ source_gv a' = cc in let h = source_gv-inj a a' e in cc
  source_gv-inj (poss a) _ q = cc

  pub sources_gv-inj : (x y : Sources) → sources_gv x ≡ sources_gv y → x ≡ y
  sources_gv-inj no_sources no_sources q = refl
  sources_gv-inj no_sources (more_sources y ys) q = cc
  sources_gv-inj (more_sources x xs) no_sources q = cc
  sources_gv-inj (more_sources x xs) (more_sources y ys) q = let e : source_gv x ≡ source_gv y = cc in let d : sources_gv xs ≡ sources_gv ys = cc in let h = source_gv-inj x y e in let k = sources_gv-inj xs ys d in cc

abbrev pub term_code : Coded SourceTerm
term_code = record { code = term_gv; inj = term_gv-inj }

abbrev pub term_list_code : Coded (List SourceTerm)
term_list_code = coded_list term_code

abbrev pub source_code : Coded Source
source_code = record { code = source_gv; inj = source_gv-inj }

abbrev pub source_list_code : Coded (List Source)
source_list_code = coded_list source_code

-- ---- items

abbrev pub kind_gv : ItemKind → Gv
kind_gv Fof = gnum 0
kind_gv Cnf = gnum 1
kind_gv Qmf = gnum 2

pub kind_gv-inj : (x y : ItemKind) → kind_gv x ≡ kind_gv y → x ≡ y
kind_gv-inj Fof Fof q = refl
kind_gv-inj Cnf Cnf q = refl
kind_gv-inj Qmf Qmf q = refl
kind_gv-inj Fof _ q = cc
kind_gv-inj Cnf _ q = cc
kind_gv-inj Qmf _ q = cc

abbrev pub places_gv : List (Name × ℕ) → Gv
places_gv [] = gnil
places_gv (p ∷ ps) = gcons (gcons (name_gv p.0) (gnum p.1)) (places_gv ps)

pub places_gv-inj : (x y : List (Name × ℕ)) → places_gv x ≡ places_gv y → x ≡ y
places_gv-inj [] [] q = refl
places_gv-inj [] (y ∷ ys) q = cc
places_gv-inj (x ∷ xs) [] q = cc
places_gv-inj (x ∷ xs) (y ∷ ys) q =
    let d : name_gv x.0 ≡ name_gv y.0 = cc in let k = name_gv-inj x.0 y.0 d in
    let c : x.1 ≡ y.1 = cc in
    let p : x ≡ y = λ i. (k i, c i) in
    let e : places_gv xs ≡ places_gv ys = cc in let h = places_gv-inj xs ys e in cc

abbrev pub item_gv : Item → Gv
item_gv (formula kind name role role_at body start) = gcons (gnum 0) (gcons (kind_gv kind) (gcons (name_gv name) (gcons (name_gv role) (gcons (gnum role_at) (gcons (source_gv body) (gnum start))))))
item_gv (include file None start) = gcons (gnum 1) (gcons (name_gv file) (gnum start))
item_gv (include file (Some names) start) = gcons (gnum 2) (gcons (name_gv file) (gcons (places_gv names) (gnum start)))

pub item_gv-inj : (x y : Item) → item_gv x ≡ item_gv y → x ≡ y
item_gv-inj (formula k n r at b s) (formula k' n' r' at' b' s') q =
    let a1 : kind_gv k ≡ kind_gv k' = cc in let h1 = kind_gv-inj k k' a1 in
    let a2 : name_gv n ≡ name_gv n' = cc in let h2 = name_gv-inj n n' a2 in
    let a3 : name_gv r ≡ name_gv r' = cc in let h3 = name_gv-inj r r' a3 in
    let a4 : source_gv b ≡ source_gv b' = cc in let h4 = source_gv-inj b b' a4 in
    let h5 : at ≡ at' = cc in
    let h6 : s ≡ s' = cc in
    λ i. formula (h1 i) (h2 i) (h3 i) (h5 i) (h4 i) (h6 i)
item_gv-inj (formula k n r at b s) (include f None s') q = cc
item_gv-inj (formula k n r at b s) (include f (Some ns) s') q = cc
item_gv-inj (include f None s) (formula k n r at b s') q = cc
item_gv-inj (include f None s) (include f' None s') q = let a : name_gv f ≡ name_gv f' = cc in let h = name_gv-inj f f' a in cc
item_gv-inj (include f None s) (include f' (Some ns) s') q = cc
item_gv-inj (include f (Some ns) s) (formula k n r at b s') q = cc
item_gv-inj (include f (Some ns) s) (include f' None s') q = cc
item_gv-inj (include f (Some ns) s) (include f' (Some ns') s') q = let a : name_gv f ≡ name_gv f' = cc in let h = name_gv-inj f f' a in let b : places_gv ns ≡ places_gv ns' = cc in let g = places_gv-inj ns ns' b in cc

abbrev pub item_list_code : Coded (List Item)
item_list_code = coded_list (record { code = item_gv; inj = item_gv-inj })
