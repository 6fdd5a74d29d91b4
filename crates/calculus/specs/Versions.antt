-- Version 2 of the text of a derivation, and texts of either version. Version 2 states each label and each term once, in a line with
-- a number, and refers to it by this number.
use Rattle.std.specs.Prelude.{ℕ, zero, suc, ◌^◌, List, [], ◌∷◌, ◌++◌, length, map, Bool, true, not, ◌&&◌, Option, Some, None, nat_lt, nat_le, slice_index_or, codes, decimal, if◌then◌else◌}
use Rattle.std.specs.List.{list_all, flat_map, filter}
use Rattle.calculus.specs.declared.version.Version.{Version}
use Rattle.calculus.specs.declared.version.Version.TheVariants.{One, Two}
use Rattle.calculus.specs.Syntax.{Symbol, Term, spare, Problem}
use Rattle.calculus.specs.Equality.{list_eq, term_eq}
use Rattle.calculus.specs.Derivations.{character_eq, Label, Home, anywhere, home_at, EigenName, SpareName, ModalArg, no_modal, to, by_new, TermArg, no_term, by_term, by_name, Step, apply_to, close, Derivation}
use Rattle.calculus.specs.Text.{is_number, term_text, formula_text, label_text}
use Rattle.calculus.specs.FirstWrong.{TextKind, IsTextOf, text_of}
use Rattle.calculus.specs.DerivationText.{setting_text, eigen_text, derivation_lines, is_name_number, label_is_written, term_is_written, rises_from, is_limit, is_printable}

-- ---- a derivation with numbers in place of its labels and terms, and the two lists that these number from 1

pub record NumberedEigen : Type 0 where
  pub number : ℕ
  pub home : ℕ

-- without a home the name may stand anywhere
pub record NumberedSpare : Type 0 where
  pub number : ℕ
  pub home : Option ℕ

pub data NumberedModal : Type 0 where
  no_numbered_modal : NumberedModal
  to_number : ℕ → NumberedModal
  by_character : ℕ → NumberedModal

pub data NumberedTerm : Type 0 where
  no_numbered_term : NumberedTerm
  by_number : ℕ → NumberedTerm
  by_eigen : ℕ → NumberedTerm

pub data NumberedStep : Type 0 where
  numbered_use : ℕ → NumberedModal → NumberedTerm → NumberedStep
  numbered_axiom : ℕ → ℕ → NumberedStep

pub record NumberedDerivation : Type 0 where
  pub limit : ℕ
  pub labels : List Label
  pub eigens : List NumberedEigen
  pub spares : List NumberedSpare
  pub terms : List Term
  pub steps : List NumberedStep

-- ---- its lines

abbrev pub first_line : Version → List ℕ
first_line One = codes "leancop derivation 1"
first_line Two = codes "leancop derivation 2"

abbrev pub label_line : ℕ → Label → List ℕ
label_line k w = codes "label " ++ decimal k ++ codes " " ++ label_text w

abbrev pub term_line : List Symbol → ℕ → Term → List ℕ
term_line symbols k t = codes "term " ++ decimal k ++ codes " " ++ term_text symbols 0 t

-- a line for each item, which are numbered from k
abbrev pub lines_from : {A : Type 0} → (ℕ → A → List ℕ) → ℕ → List A → List (List ℕ)
lines_from line k [] = []
lines_from line k (x ∷ xs) = line k x ∷ lines_from line (suc k) xs

abbrev pub numbered_eigen_line : NumberedEigen → List ℕ
numbered_eigen_line x = codes "name " ++ eigen_text x.number ++ codes " " ++ decimal x.home

abbrev pub numbered_home_text : Option ℕ → List ℕ
numbered_home_text None = codes "any"
numbered_home_text (Some k) = decimal k

abbrev pub numbered_spare_line : NumberedSpare → List ℕ
numbered_spare_line x = codes "name $$s" ++ decimal x.number ++ codes " " ++ numbered_home_text x.home

abbrev pub numbered_modal_text : NumberedModal → List ℕ
numbered_modal_text no_numbered_modal = []
numbered_modal_text (to_number k) = codes " to " ++ decimal k
numbered_modal_text (by_character n) = codes " new $$c" ++ decimal n

abbrev pub numbered_term_text : NumberedTerm → List ℕ
numbered_term_text no_numbered_term = []
numbered_term_text (by_number k) = codes " term " ++ decimal k
numbered_term_text (by_eigen n) = codes " name " ++ eigen_text n

abbrev pub numbered_step_line : NumberedStep → List ℕ
numbered_step_line (numbered_use n m t) = codes "use " ++ decimal n ++ numbered_modal_text m ++ numbered_term_text t
numbered_step_line (numbered_axiom n k) = codes "axiom " ++ decimal n ++ codes " " ++ decimal k

abbrev pub numbered_head : Problem → ℕ → List (List ℕ)
numbered_head P limit = first_line Two ∷ (codes "logic " ++ setting_text P.setting) ∷ (codes "formula " ++ formula_text P.symbols 0 P.formula) ∷ (codes "limit " ++ decimal limit) ∷ []

abbrev pub numbered_lines : Problem → NumberedDerivation → List (List ℕ)
numbered_lines P x = numbered_head P x.limit ++ lines_from label_line 1 x.labels ++ map numbered_eigen_line x.eigens ++ map numbered_spare_line x.spares ++ lines_from (term_line P.symbols) 1 x.terms ++ map numbered_step_line x.steps ++ codes "end" ∷ []

-- ---- which ones can be written

-- a number of one of n things
abbrev pub is_among : ℕ → ℕ → Bool
is_among n k = nat_le 1 k && nat_le k n

-- there are no more than a machine can count
abbrev pub is_count : ℕ → Bool
is_count n = nat_lt n (2 ^ 64)

abbrev pub numbered_home_is_written : ℕ → Option ℕ → Bool
numbered_home_is_written labels None = true
numbered_home_is_written labels (Some k) = is_among labels k

abbrev pub numbered_modal_is_written : ℕ → NumberedModal → Bool
numbered_modal_is_written labels no_numbered_modal = true
numbered_modal_is_written labels (to_number k) = is_among labels k
numbered_modal_is_written labels (by_character n) = is_name_number n

abbrev pub numbered_term_is_written : ℕ → NumberedTerm → Bool
numbered_term_is_written terms no_numbered_term = true
numbered_term_is_written terms (by_number k) = is_among terms k
numbered_term_is_written terms (by_eigen n) = is_name_number n

-- with so many labels and terms
abbrev pub numbered_step_is_written : ℕ → ℕ → NumberedStep → Bool
numbered_step_is_written labels terms (numbered_use n m t) = is_number n && numbered_modal_is_written labels m && numbered_term_is_written terms t
numbered_step_is_written labels terms (numbered_axiom n k) = is_number n && is_number k

abbrev pub numbered_eigen_is_written : ℕ → NumberedEigen → Bool
numbered_eigen_is_written labels x = is_number x.number && is_among labels x.home

abbrev pub numbered_spare_is_written : ℕ → NumberedSpare → Bool
numbered_spare_is_written labels x = is_number x.number && numbered_home_is_written labels x.home

abbrev pub is_written : Problem → NumberedDerivation → Bool
is_written P x =
    is_limit x.limit
    && (is_count (length x.labels) && list_all label_is_written x.labels)
    && (rises_from 0 (map (λ (y : NumberedEigen). y.number) x.eigens) && list_all (numbered_eigen_is_written (length x.labels)) x.eigens)
    && (rises_from 0 (map (λ (y : NumberedSpare). y.number) x.spares) && list_all (numbered_spare_is_written (length x.labels)) x.spares)
    && (is_count (length x.terms) && list_all (term_is_written P.symbols) x.terms)
    && list_all (numbered_step_is_written (length x.labels) (length x.terms)) x.steps

-- ---- the derivation that it states

-- the item of a number, from 1
abbrev pub numbered : {A : Type 0} → List A → ℕ → A → A
numbered xs zero other = other
numbered xs (suc k) other = slice_index_or xs k other

abbrev pub stated_home : List Label → Option ℕ → Home
stated_home labels None = anywhere
stated_home labels (Some k) = home_at (numbered labels k [])

abbrev pub stated_modal : List Label → NumberedModal → ModalArg
stated_modal labels no_numbered_modal = no_modal
stated_modal labels (to_number k) = to (numbered labels k [])
stated_modal labels (by_character n) = by_new n

abbrev pub stated_term : List Term → NumberedTerm → TermArg
stated_term terms no_numbered_term = no_term
stated_term terms (by_number k) = by_term (numbered terms k (spare 0))
stated_term terms (by_eigen n) = by_name n

abbrev pub stated_step : List Label → List Term → NumberedStep → Step
stated_step labels terms (numbered_use n m t) = apply_to n (stated_modal labels m) (stated_term terms t)
stated_step labels terms (numbered_axiom n k) = close n k

abbrev pub stated_eigen : List Label → NumberedEigen → EigenName
stated_eigen labels x = record { number = x.number; home = numbered labels x.home [] }

abbrev pub stated_spare : List Label → NumberedSpare → SpareName
stated_spare labels x = record { number = x.number; home = stated_home labels x.home }

abbrev pub stated : NumberedDerivation → Derivation
stated x = record {
  limit = x.limit;
  names = record { eigens = map (stated_eigen x.labels) x.eigens; spares = map (stated_spare x.labels) x.spares };
  steps = map (stated_step x.labels x.terms) x.steps;
}

-- ---- the numbers of a derivation: by first occurrence

abbrev pub home_labels : Home → List Label
home_labels anywhere = []
home_labels (home_at w) = w ∷ []

abbrev pub modal_labels : ModalArg → List Label
modal_labels (to w) = w ∷ []
modal_labels _ = []

abbrev pub step_labels : Step → List Label
step_labels (apply_to n m t) = modal_labels m
step_labels (close n k) = []

abbrev pub arg_terms : TermArg → List Term
arg_terms (by_term t) = t ∷ []
arg_terms _ = []

abbrev pub step_terms : Step → List Term
step_terms (apply_to n m t) = arg_terms t
step_terms (close n k) = []

-- the labels of the homes, then those of the steps
abbrev pub labels_of : Derivation → List Label
labels_of d = map (λ (x : EigenName). x.home) d.names.eigens ++ flat_map (λ (x : SpareName). home_labels x.home) d.names.spares ++ flat_map step_labels d.steps

abbrev pub terms_of : Derivation → List Term
terms_of d = flat_map step_terms d.steps

abbrev pub same_label : Label → Label → Bool
same_label = list_eq character_eq

-- each item once, where it first occurs
abbrev pub once : {A : Type 0} → (A → A → Bool) → List A → List A
once same [] = []
once same (x ∷ xs) = x ∷ filter (λ y. not (same x y)) (once same xs)

-- how many items stand before the first one that is the same
abbrev pub place_in : {A : Type 0} → (A → A → Bool) → List A → A → ℕ
place_in same [] x = 0
place_in same (y ∷ ys) x = if same y x then 0 else suc (place_in same ys x)

-- the number of an item, from 1
abbrev pub number_in : {A : Type 0} → (A → A → Bool) → List A → A → ℕ
number_in same xs x = suc (place_in same xs x)

abbrev pub home_number : List Label → Home → Option ℕ
home_number labels anywhere = None
home_number labels (home_at w) = Some (number_in same_label labels w)

abbrev pub numbered_modal : List Label → ModalArg → NumberedModal
numbered_modal labels no_modal = no_numbered_modal
numbered_modal labels (to w) = to_number (number_in same_label labels w)
numbered_modal labels (by_new n) = by_character n

abbrev pub numbered_arg : List Term → TermArg → NumberedTerm
numbered_arg terms no_term = no_numbered_term
numbered_arg terms (by_term t) = by_number (number_in term_eq terms t)
numbered_arg terms (by_name n) = by_eigen n

abbrev pub numbered_step : List Label → List Term → Step → NumberedStep
numbered_step labels terms (apply_to n m t) = numbered_use n (numbered_modal labels m) (numbered_arg terms t)
numbered_step labels terms (close n k) = numbered_axiom n k

abbrev pub numbered_eigen : List Label → EigenName → NumberedEigen
numbered_eigen labels x = record { number = x.number; home = number_in same_label labels x.home }

abbrev pub numbered_spare : List Label → SpareName → NumberedSpare
numbered_spare labels x = record { number = x.number; home = home_number labels x.home }

-- a derivation by these labels and terms
abbrev pub numbered_by : List Label → List Term → Derivation → NumberedDerivation
numbered_by labels terms d = record {
  limit = d.limit;
  labels = labels;
  eigens = map (numbered_eigen labels) d.names.eigens;
  spares = map (numbered_spare labels) d.names.spares;
  terms = terms;
  steps = map (numbered_step labels terms) d.steps;
}

abbrev pub numbering : Derivation → NumberedDerivation
numbering d = numbered_by (once same_label (labels_of d)) (once term_eq (terms_of d)) d

-- ---- texts of either version

abbrev pub lines_in : Version → Problem → Derivation → List (List ℕ)
lines_in One P d = derivation_lines P d
lines_in Two P d = numbered_lines P (numbering d)

-- the derivation can be printed: for version 2 its labels and terms can also be counted, as those of a derivation in memory can
abbrev pub is_printable_in : Version → Problem → Derivation → Bool
is_printable_in One P d = is_printable P d
is_printable_in Two P d = is_printable P d && (is_count (length (numbering d).labels) && is_count (length (numbering d).terms))

abbrev pub derivation_texts : Version → Problem → TextKind Derivation
derivation_texts v P = record { printable = is_printable_in v P; lines = lines_in v P }

abbrev pub text_in : Version → Problem → Derivation → List ℕ
text_in v P d = text_of (derivation_texts v P) d

-- the bytes are the text of the derivation in this version
abbrev pub IsTextIn : Version → Problem → Derivation → List ℕ → Type 0
IsTextIn v P d bytes = IsTextOf (derivation_texts v P) d bytes

-- ---- texts in the form of version 2, whose numbers may be others than those of the derivation that they state

abbrev pub numbered_texts : Problem → TextKind NumberedDerivation
numbered_texts P = record { printable = is_written P; lines = numbered_lines P }

-- the bytes are the text of a derivation with numbers
abbrev pub IsNumberedText : Problem → NumberedDerivation → List ℕ → Type 0
IsNumberedText P x bytes = IsTextOf (numbered_texts P) x bytes
