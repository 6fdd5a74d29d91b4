-- What contracts see of `Cells`.
use Rattle.std.specs.Prelude.{ℕ, List, refl}
use Rattle.std.specs.Coded.{Coded, code_by, coded×, coded_list, coded_ℕ}

-- a list, and how many items can be appended without taking memory
pub record Reserved (T : Type 0) : Type 0 where
  pub list : List T
  pub spare : ℕ

-- it is stored as the pair of its fields
abbrev pub reserved_code : {T : Type 0} → Coded T → Coded (Reserved T)
reserved_code {T} code =
    code_by (List T × ℕ) (coded× (coded_list code) coded_ℕ) (λ r. (r.list, r.spare))
    (λ p. record { list = p.0; spare = p.1 }) (λ _. refl)
