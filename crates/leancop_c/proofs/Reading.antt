-- What is read of a text, and what is told of it.
use Rattle.std.proofs.Common.{◌≡◌, List, ℕ, [], Option, Some, None, Result, Ok, Err, ◌∙◌, ap, refl, sym, subst}
use Rattle.std.specs.Prelude.{IfSome, length}
use Rattle.calculus.specs.Syntax.{Problem, Setting}
use Rattle.cop_base.specs.Outside.{Files}
use Rattle.problem_build.specs.Answers.{refused as refused_by}
use Rattle.problem_build.specs.Building.{IsProblemOf}
use Rattle.problem_build.specs.Refusals.{Refusal}
use Rattle.leancop_c.specs.Judging.{IsJudged, is_accepted, is_rejected, is_lost}
use Rattle.leancop_c.specs.Told.{Holds, alone, placed, unread_status, unread_told}
use Rattle.leancop_c.specs.Told.{IsTold, accepted, rejected, refused, no_memory}
use Rattle.leancop_c.specs.Told.{IsCanonical, IsWritten, unread, without_memory, written}
use Rattle.leancop_c.specs.declared.LeancopJudgement.{LeancopJudgement}

-- names that are empty, and the files that are the text's
moved : (F : Files → List ℕ → List ℕ → Type 0) (f g : Files) (name root : List ℕ) → f ≡ g → name ≡ [] → root ≡ [] → F f name root → F g [] []
moved F f g name root e k l h = subst (λ x. F x [] []) e (subst (λ x. F f x []) k (subst (λ x. F f name x) l h))

abbrev Only : Setting → Result Problem Refusal → Files → (name root : List ℕ) → Type 0
Only s r files name root = IsProblemOf files name root s r
    × ((other : Result Problem Refusal) → IsProblemOf files name root s other → other ≡ r)

pub held-in : (answer : Option (Result Problem Refusal)) (files : Files) (name root : List ℕ) (s : Setting)
    → IfSome answer (λ r. IsProblemOf files name root s r)
    → IfSome answer (λ r. (other : Result Problem Refusal) → IsProblemOf files name root s other → other ≡ r)
    → name ≡ [] → root ≡ []
    → IfSome answer (λ r. (text : List ℕ) → files ≡ alone text → Holds (Some s) text r)
held-in None files name root s reading only k l = tt
held-in (Some r) files name root s reading only k l = λ text e.
    let both = moved (Only s r) files (alone text) name root e k l (reading, only) in
    record { setting = s; is_asked = refl; reading = both.0; only = both.1 }

-- ---- what is told

pub judged-told : (s : Setting) (p d : List ℕ) (P : Problem) (j : LeancopJudgement) → Holds (Some s) p (Ok P) → IsJudged P d j → IsTold (Some s) p d j
judged-told s p d P _ held (is_accepted only theorem) = accepted (record { told = P; held = held; judged = only; theorem = theorem })
judged-told s p d P _ held (is_rejected line fault only) = rejected line fault (record { told = P; held = held; judged = only })
judged-told s p d P _ held is_lost = no_memory s refl

pub unread-is_told : (o : Option Refusal) (s : Setting) (p d : List ℕ) → IfSome (refused_by o) (λ r. Holds (Some s) p r) → IsTold (Some s) p d (unread_told o)
unread-is_told None s p d h = no_memory s refl
unread-is_told (Some r) s p d h = refused r h

unread-is_written : (o : Option Refusal) (s : Setting) (p room : List ℕ) → IfSome o (λ r. Holds (Some s) p (Err r)) → IsWritten (Some s) p room (unread_status o) room 0
unread-is_written None s p room h = without_memory s refl
unread-is_written (Some r) s p room h = unread r h

pub is_unread : (o : Option Refusal) (s : Setting) (p room : List ℕ) (status size : ℕ) → IfSome o (λ r. Holds (Some s) p (Err r))
    → status ≡ unread_status o → size ≡ 0 → IsWritten (Some s) p room status room size
is_unread o s p room status size h e k =
    subst (λ n. IsWritten (Some s) p room status room n) (sym k)
    (subst (λ n. IsWritten (Some s) p room n room 0) (sym e) (unread-is_written o s p room h))

pub is_placed : (a : Option Setting) (p room text slice after : List ℕ) (size : ℕ) → IsCanonical a p text
    → slice ≡ text → after ≡ placed room slice → size ≡ length text → IsWritten a p room 0 after size
is_placed a p room text slice after size h e k l =
    subst (λ n. IsWritten a p room 0 after n) (sym l)
    (subst (λ x. IsWritten a p room 0 x (length text)) (sym (k ∙ ap (placed room) e)) (written text h))
