-- What may follow within the formula of an item may follow in the text, and nothing else may, step by step.
use Rattle.std.proofs.Common.{◌≡◌, ◌⊎◌, ℕ, Bool, true, false, List, [], ◌∷◌, ◌++◌, Option, None, Some, inl, inr, refl, ◌∙◌, ap}
use Rattle.tptp_reader.specs.Terminals.{Terminal, close_round, comma}
use Rattle.tptp_reader.specs.Faults.{Language}
use Rattle.tptp_reader.specs.Expecting.{Expected, stop, items, move, moved, is_optional, step, run}
use Rattle.tptp_reader.proofs.StackLaws.{behind_body}

-- a step above the stop is one above what follows a formula in an item, with the same nesting, and the other way round
abbrev pub SameStep : Bool → List Expected → Terminal → Type 0
SameStep modal above x =
    ((step modal (above ++ stop ∷ []) x ≡ None) × (step modal (above ++ behind_body) x ≡ None))
    ⊎ ((n : ℕ) × (r : List Expected) × (s : List Expected) × (step modal (above ++ stop ∷ []) x ≡ Some (n, r)) × (step modal (above ++ behind_body) x ≡ Some (n, s)))

pub same-step : (modal : Bool) (above : List Expected) (x : Terminal) → SameStep modal above x
same-step modal [] comma = inr (_, _, _, refl, refl)
same-step modal [] close_round = inr (_, _, _, refl, refl)
same-step modal [] _ = inl (refl, refl)
same-step modal (e ∷ above) x = by (move modal e x) refl (is_optional e) refl (same-step modal above x)
  where
    over : (move modal e x ≡ None) → (bottom : List Expected) → step modal (e ∷ (above ++ bottom)) x ≡ moved None (is_optional e) (above ++ bottom) (step modal (above ++ bottom) x)
    over d bottom = ap (λ m. moved m (is_optional e) (above ++ bottom) (step modal (above ++ bottom) x)) d

    through : move modal e x ≡ None → is_optional e ≡ true → (bottom : List Expected) → step modal (e ∷ (above ++ bottom)) x ≡ step modal (above ++ bottom) x
    through d o bottom = over d bottom ∙ ap (λ b. moved None b (above ++ bottom) (step modal (above ++ bottom) x)) o

    by : (m : Option (ℕ × List Expected)) → move modal e x ≡ m → (o : Bool) → is_optional e ≡ o → SameStep modal above x → SameStep modal (e ∷ above) x
    by (Some q) d o t next =
        inr (
          q.0,
          q.1 ++ (above ++ stop ∷ []),
          q.1 ++ (above ++ behind_body),
          ap (λ m. moved m (is_optional e) (above ++ stop ∷ []) (step modal (above ++ stop ∷ []) x)) d,
          ap (λ m. moved m (is_optional e) (above ++ behind_body) (step modal (above ++ behind_body) x)) d,
        )
    by None d true t (inl n) = inl (through d t (stop ∷ []) ∙ n.0, through d t behind_body ∙ n.1)
    by None d true t (inr n) = inr (n.0, n.1, n.2, through d t (stop ∷ []) ∙ n.3, through d t behind_body ∙ n.4)
    by None d false t next =
        inl (over d (stop ∷ []) ∙ ap (λ b. moved None b (above ++ stop ∷ []) (step modal (above ++ stop ∷ []) x)) t, over d behind_body ∙ ap (λ b. moved None b (above ++ behind_body) (step modal (above ++ behind_body) x)) t)

record Lifted (modal : Bool) (L : Language) (body : Expected) (front inside : List Terminal) : Type 0 where
  pub above : List Expected
  pub before : List ℕ
  pub is_run : run modal (body ∷ stop ∷ []) inside ≡ Some (before, above ++ stop ∷ [])
  pub nestings : List ℕ
  pub is_text_run : run modal (items ∷ []) (front ++ inside) ≡ Some (nestings, above ++ behind_body)
