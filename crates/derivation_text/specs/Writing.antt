-- The lines after the head of a text of a version, in which labels and terms stand themselves or by their numbers.
use Rattle.std.specs.Prelude.{ℕ, List, [], ◌∷◌, ◌++◌, map, Option, None, Some, IsTrue, codes, decimal}
use Rattle.std.specs.List.{list_all}
use Rattle.calculus.specs.declared.version.Version.{Version}
use Rattle.calculus.specs.declared.version.Version.TheVariants.{One, Two}
use Rattle.calculus.specs.Syntax.{Symbol, Term, spare}
use Rattle.calculus.specs.Derivations.{Label}
use Rattle.calculus.specs.DerivationText.{label_is_written, term_is_written}
use Rattle.calculus.specs.Text.{label_text, term_text}
use Rattle.calculus.specs.Versions.{NumberedDerivation, NumberedEigen, NumberedSpare, NumberedModal, no_numbered_modal, to_number, by_character, NumberedTerm, no_numbered_term, by_number, by_eigen, NumberedStep, numbered_use, numbered_axiom, label_line, lines_from, numbered, term_line}

-- the labels and terms that are listed have texts
pub record AreTablesWritten (symbols : List Symbol) (x : NumberedDerivation) : Type 0 where
  pub labels : IsTrue (list_all label_is_written x.labels)
  pub terms : IsTrue (list_all (term_is_written symbols) x.terms)

abbrev pub label_text_at : Version → List Label → ℕ → List ℕ
label_text_at One labels k = label_text (numbered labels k [])
label_text_at Two labels k = decimal k

abbrev pub term_text_at : Version → List Symbol → List Term → ℕ → List ℕ
term_text_at One symbols terms k = term_text symbols 0 (numbered terms k (spare 0))
term_text_at Two symbols terms k = decimal k

abbrev pub eigen_line_at : Version → List Label → NumberedEigen → List ℕ
eigen_line_at v labels x = codes "name $$e" ++ (decimal x.number ++ (codes " " ++ label_text_at v labels x.home))

abbrev pub home_text_at : Version → List Label → Option ℕ → List ℕ
home_text_at v labels None = codes "any"
home_text_at v labels (Some k) = label_text_at v labels k

abbrev pub spare_line_at : Version → List Label → NumberedSpare → List ℕ
spare_line_at v labels x = codes "name $$s" ++ (decimal x.number ++ (codes " " ++ home_text_at v labels x.home))

abbrev pub modal_text_at : Version → List Label → NumberedModal → List ℕ
modal_text_at v labels no_numbered_modal = []
modal_text_at v labels (to_number k) = codes " to " ++ label_text_at v labels k
modal_text_at v labels (by_character n) = codes " new $$c" ++ decimal n

abbrev pub arg_text_at : Version → List Symbol → List Term → NumberedTerm → List ℕ
arg_text_at v symbols terms no_numbered_term = []
arg_text_at v symbols terms (by_number k) = codes " term " ++ term_text_at v symbols terms k
arg_text_at v symbols terms (by_eigen n) = codes " name $$e" ++ decimal n

abbrev pub step_line_at : Version → List Symbol → List Label → List Term → NumberedStep → List ℕ
step_line_at v symbols labels terms (numbered_use n m t) = codes "use " ++ (decimal n ++ (modal_text_at v labels m ++ arg_text_at v symbols terms t))
step_line_at v symbols labels terms (numbered_axiom n k) = codes "axiom " ++ (decimal n ++ (codes " " ++ decimal k))

-- lines of labels and of terms, which version 2 alone has
abbrev pub label_lines_in : Version → List Label → List (List ℕ)
label_lines_in One labels = []
label_lines_in Two labels = lines_from label_line 1 labels

abbrev pub term_lines_in : Version → List Symbol → List Term → List (List ℕ)
term_lines_in One symbols terms = []
term_lines_in Two symbols terms = lines_from (term_line symbols) 1 terms

abbrev pub body_lines_in : Version → List Symbol → NumberedDerivation → List (List ℕ)
body_lines_in v symbols x =
    label_lines_in v x.labels ++ (map (eigen_line_at v x.labels) x.eigens ++ (map (spare_line_at v x.labels) x.spares
    ++ (term_lines_in v symbols x.terms ++ (map (step_line_at v symbols x.labels x.terms) x.steps ++ codes "end" ∷ []))))
