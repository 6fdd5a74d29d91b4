-- One step of the code is one step of the sketch, whatever steps come after it.
use Rattle.std.proofs.Common.{◌≡◌, ℕ, suc, List, [], ◌∷◌, ◌++◌, true, false, refl, sym, ◌∙◌, ap, append_assoc}
use Rattle.calculus.specs.Derivations.{EigenName, Step}
use Rattle.godel_transfer.specs.Sketch.{sketches_for, sketched_for, names_sketched_for, sketched_from, names_sketched_from}
use Rattle.godel_transfer.specs.Transfer.{OpenBranch}
use Rattle.godel_transfer.specs.BranchView.{branches_of, the_branch, waiting_in}
use Rattle.godel_transfer.specs.declared.branches.Branches.{Branches}

pub sketched-on : (b : OpenBranch) (bs cs : List OpenBranch) (i : ℕ) (x : Step) (out more rest : List Step) → more ≡ out ++ sketched_for b i x → cs ≡ sketches_for b i x ++ bs → more ++ sketched_from cs (suc i) rest ≡ out ++ sketched_from (b ∷ bs) i (x ∷ rest)
sketched-on b bs cs i x out more rest e f =
    (λ j. e j ++ sketched_from (f j) (suc i) rest) ∙ append_assoc out (sketched_for b i x) (sketched_from (sketches_for b i x ++ bs) (suc i) rest)

pub names-on : (b : OpenBranch) (bs cs : List OpenBranch) (i : ℕ) (x : Step) (out more : List EigenName) (rest : List Step) → more ≡ out ++ names_sketched_for b i x → cs ≡ sketches_for b i x ++ bs → more ++ names_sketched_from cs (suc i) rest ≡ out ++ names_sketched_from (b ∷ bs) i (x ∷ rest)
names-on b bs cs i x out more rest e f =
    (λ j. e j ++ names_sketched_from (f j) (suc i) rest) ∙ append_assoc out (names_sketched_for b i x) (names_sketched_from (sketches_for b i x ++ bs) (suc i) rest)

-- no branch is open

none-sketched : (i : ℕ) (xs : List Step) → sketched_from [] i xs ≡ []
none-sketched i [] = refl
none-sketched i (x ∷ xs) = refl

none-named : (i : ℕ) (xs : List Step) → names_sketched_from [] i xs ≡ []
none-named i [] = refl
none-named i (x ∷ xs) = refl

pub sketched-shut : (bs : List OpenBranch) (i : ℕ) (x : Step) (out rest : List Step) → bs ≡ [] → out ++ sketched_from bs (suc i) rest ≡ out ++ sketched_from bs i (x ∷ rest)
sketched-shut bs i x out rest e = ap (λ ys. out ++ ys) ((λ j. sketched_from (e j) (suc i) rest) ∙ none-sketched (suc i) rest ∙ (λ j. sketched_from (sym e j) i (x ∷ rest)))

pub names-shut : (bs : List OpenBranch) (i : ℕ) (x : Step) (out : List EigenName) (rest : List Step) → bs ≡ [] → out ++ names_sketched_from bs (suc i) rest ≡ out ++ names_sketched_from bs i (x ∷ rest)
names-shut bs i x out rest e = ap (λ ys. out ++ ys) ((λ j. names_sketched_from (e j) (suc i) rest) ∙ none-named (suc i) rest ∙ (λ j. names_sketched_from (sym e j) i (x ∷ rest)))

pub open-shown : (b : Branches) → b.is_open ≡ true → branches_of b ≡ the_branch b ∷ waiting_in b
open-shown b e = rw e refl

pub shut-shown : (b : Branches) → b.is_open ≡ false → branches_of b ≡ []
shut-shown b e = rw e refl
