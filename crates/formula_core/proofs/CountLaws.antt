-- Clauses and literals of a signed formula, by its shape and its components.
use Rattle.std.proofs.Common.{◌≡◌, ℕ, ◌+◌, ◌*◌, List, [], ◌∷◌, refl, sym}
use Rattle.calculus.specs.declared.sign.Sign.{Sign}
use Rattle.calculus.specs.declared.sign.Sign.TheVariants.{T, F}
use Rattle.calculus.specs.declared.kind.Shape.{Shape}
use Rattle.calculus.specs.declared.kind.Shape.TheVariants.{Alpha, Beta, Literal}
use Rattle.calculus.specs.Clauses.{clause_count, literal_count}
use Rattle.calculus.specs.Kinds.{Signed, components, shape_of}
use Rattle.calculus.specs.Syntax.{Formula, atom, neg, conj, disj, imp, all, ex, box, dia}

abbrev pub clauses : Signed → ℕ
clauses a = clause_count a.formula a.sign

abbrev pub literals : Signed → ℕ
literals a = literal_count a.formula a.sign

abbrev pub clauses_by : Shape → List Signed → ℕ
clauses_by Literal cs = 1
clauses_by Beta (a ∷ b ∷ cs) = clauses a * clauses b
clauses_by k [] = 0
clauses_by k (a ∷ []) = clauses a
clauses_by k (a ∷ b ∷ cs) = clauses a + clauses b

abbrev pub literals_by : Shape → List Signed → ℕ
literals_by Literal cs = 1
literals_by Beta (a ∷ b ∷ cs) = literals a * clauses b + literals b * clauses a
literals_by k [] = 0
literals_by k (a ∷ []) = literals a
literals_by k (a ∷ b ∷ cs) = literals a + literals b

pub clauses-by : (s : Sign) (f : Formula) → clause_count f s ≡ clauses_by (shape_of s f) (components s f)
clauses-by s (atom p ts) = refl
clauses-by s (neg a) = refl
clauses-by T (conj a b) = refl
clauses-by F (conj a b) = refl
clauses-by T (disj a b) = refl
clauses-by F (disj a b) = refl
clauses-by T (imp a b) = refl
clauses-by F (imp a b) = refl
clauses-by T (all a) = refl
clauses-by F (all a) = refl
clauses-by T (ex a) = refl
clauses-by F (ex a) = refl
clauses-by s (box a) = refl
clauses-by s (dia a) = refl

pub literals-by : (s : Sign) (f : Formula) → literal_count f s ≡ literals_by (shape_of s f) (components s f)
literals-by s (atom p ts) = refl
literals-by s (neg a) = refl
literals-by T (conj a b) = refl
literals-by F (conj a b) = refl
literals-by T (disj a b) = refl
literals-by F (disj a b) = refl
literals-by T (imp a b) = refl
literals-by F (imp a b) = refl
literals-by T (all a) = refl
literals-by F (all a) = refl
literals-by T (ex a) = refl
literals-by F (ex a) = refl
literals-by s (box a) = refl
literals-by s (dia a) = refl

pub ruleset counting = (clauses-by, literals-by)

pub clauses-alpha : (s : Sign) (f : Formula) (a b : Signed) → Alpha ≡ shape_of s f → a ∷ b ∷ [] ≡ components s f
    → clause_count f s ≡ clauses a + clauses b
clauses-alpha s f a b h k = rw (clauses-by s f, sym h, sym k) refl

pub literals-alpha : (s : Sign) (f : Formula) (a b : Signed) → Alpha ≡ shape_of s f → a ∷ b ∷ [] ≡ components s f
    → literal_count f s ≡ literals a + literals b
literals-alpha s f a b h k = rw (literals-by s f, sym h, sym k) refl

pub clauses-beta : (s : Sign) (f : Formula) (a b : Signed) → Beta ≡ shape_of s f → a ∷ b ∷ [] ≡ components s f
    → clause_count f s ≡ clauses a * clauses b
clauses-beta s f a b h k = rw (clauses-by s f, sym h, sym k) refl

pub literals-beta : (s : Sign) (f : Formula) (a b : Signed) → Beta ≡ shape_of s f → a ∷ b ∷ [] ≡ components s f
    → literal_count f s ≡ literals a * clauses b + literals b * clauses a
literals-beta s f a b h k = rw (literals-by s f, sym h, sym k) refl
