-- What is told, by the status.
use Rattle.std.proofs.Common.{◌≡◌, ◌≢◌, List, ℕ, Option, Some, None, Ok, Err, refl, sym, arith}
use Rattle.std.specs.Prelude.{◌↔◌}
use Rattle.calculus.specs.Syntax.{Problem, Setting}
use Rattle.problem_build.specs.Refusals.{Refusal, missing, input_too_large, nesting_too_deep, formula_too_large, too_many_symbols, bad}
use Rattle.leancop_c.specs.Numbers.{refusal_status}
use Rattle.leancop_c.specs.Told.{Holds, IsAccepted, IsFormula, IsRefused, IsRejectedBy}
use Rattle.leancop_c.specs.Told.{IsTold, accepted, rejected, refused, no_setting, no_memory}
use Rattle.leancop_c.specs.Told.{IsWritten, written, unread, without_setting, without_memory}
use Rattle.leancop_c.specs.declared.LeancopJudgement.{LeancopJudgement}

-- a refusal is told by 4 or 6
not_refusal : (n : ℕ) → n ≢ 4 → n ≢ 6 → (r : Refusal) → refusal_status r ≢ n
not_refusal n four six (missing name) e = six (sym e)
not_refusal n four six input_too_large e = four (sym e)
not_refusal n four six nesting_too_deep e = four (sym e)
not_refusal n four six formula_too_large e = four (sym e)
not_refusal n four six too_many_symbols e = four (sym e)
not_refusal n four six (bad file offset c) e = four (sym e)

-- where a refusal holds, there is a setting
some_setting : (a : Option Setting) (s : Setting) → a ≡ Some s → a ≢ None
some_setting a s is none = absurd (cc)

-- ---- judgements

pub accepted_told : (a : Option Setting) (p d : List ℕ) (j : LeancopJudgement) → IsTold a p d j → j.status ≡ 0 → IsAccepted a p d
accepted_told a p d _ (accepted h) e = h
accepted_told a p d _ (rejected line fault h) e = absurd (omega (arith, e))
accepted_told a p d _ (refused r h) e = absurd (not_refusal 0 (λ k. omega (arith, k)) (λ k. omega (arith, k)) r e)
accepted_told a p d _ (no_setting h) e = absurd (omega (arith, e))
accepted_told a p d _ (no_memory s h) e = absurd (omega (arith, e))

pub rejected_told : (a : Option Setting) (p d : List ℕ) (j : LeancopJudgement) → IsTold a p d j → j.status ≡ 8 → IsRejectedBy a p d j.line j.fault
rejected_told a p d _ (accepted h) e = absurd (omega (arith, e))
rejected_told a p d _ (rejected line fault h) e = (fault, h, refl)
rejected_told a p d _ (refused r h) e = absurd (not_refusal 8 (λ k. omega (arith, k)) (λ k. omega (arith, k)) r e)
rejected_told a p d _ (no_setting h) e = absurd (omega (arith, e))
rejected_told a p d _ (no_memory s h) e = absurd (omega (arith, e))

pub refused_told : (n : ℕ) → n ≢ 0 → n ≢ 5 → n ≢ 7 → n ≢ 8
    → (a : Option Setting) (p d : List ℕ) (j : LeancopJudgement) → IsTold a p d j → j.status ≡ n → IsRefused a p n j.offset j.fault
refused_told n zero five seven eight a p d _ (accepted h) e = absurd (zero (sym e))
refused_told n zero five seven eight a p d _ (rejected line fault h) e = absurd (eight (sym e))
refused_told n zero five seven eight a p d _ (refused r h) e = record { refusal = r; held = h; status_is = sym e; offset_is = refl; number_is = refl }
refused_told n zero five seven eight a p d _ (no_setting h) e = absurd (five (sym e))
refused_told n zero five seven eight a p d _ (no_memory s h) e = absurd (seven (sym e))

setting_missing : (a : Option Setting) (p d : List ℕ) (j : LeancopJudgement) → IsTold a p d j → j.status ≡ 5 → a ≡ None
setting_missing a p d _ (accepted h) e = absurd (omega (arith, e))
setting_missing a p d _ (rejected line fault h) e = absurd (omega (arith, e))
setting_missing a p d _ (refused r h) e = absurd (not_refusal 5 (λ k. omega (arith, k)) (λ k. omega (arith, k)) r e)
setting_missing a p d _ (no_setting h) e = h
setting_missing a p d _ (no_memory s h) e = absurd (omega (arith, e))

missing_setting : (a : Option Setting) (p d : List ℕ) (j : LeancopJudgement) → IsTold a p d j → a ≡ None → j.status ≡ 5
missing_setting a p d _ (accepted h) e = absurd (some_setting a h.held.setting h.held.is_asked e)
missing_setting a p d _ (rejected line fault h) e = absurd (some_setting a h.held.setting h.held.is_asked e)
missing_setting a p d _ (refused r h) e = absurd (some_setting a h.setting h.is_asked e)
missing_setting a p d _ (no_setting h) e = refl
missing_setting a p d _ (no_memory s h) e = absurd (some_setting a s h e)

pub no_setting_told : (a : Option Setting) (p d : List ℕ) (j : LeancopJudgement) → IsTold a p d j → (j.status ≡ 5) ↔ (a ≡ None)
no_setting_told a p d j h = (setting_missing a p d j h, missing_setting a p d j h)

-- ---- formulas

pub formula_told : (a : Option Setting) (p room : List ℕ) (status : ℕ) (after : List ℕ) (size : ℕ)
    → IsWritten a p room status after size → status ≡ 0 → IsFormula a p room after size
formula_told a p room _ _ _ (written text h) e = (text, h, refl, refl)
formula_told a p room _ _ _ (unread r h) e = absurd (not_refusal 0 (λ k. omega (arith, k)) (λ k. omega (arith, k)) r e)
formula_told a p room _ _ _ (without_setting h) e = absurd (omega (arith, e))
formula_told a p room _ _ _ (without_memory s h) e = absurd (omega (arith, e))
