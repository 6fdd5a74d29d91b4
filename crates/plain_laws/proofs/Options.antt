-- Laws of options.
use Rattle.std.proofs.Common.{Bool, Bor, IfSome, IsNone, IsTrue, List, MatchOption, None, Option, Some, ap, false, is_some, option_and_then, refl, sym, unwrap_or, ℕ, ◌++◌, ◌∙◌, ◌≡◌, ◌≢◌}
use Rattle.std.proofs.lemmas.Bool.{false≢true}
use Rattle.std.specs.Option.{option_map_or}
use Rattle.std.specs.Prelude.{if◌then◌else◌, true}

pub some-if : (b : Bool) (k m : ℕ) → Some m ≡ (if b then Some k else None) → b ≡ true
some-if true k m e = refl
some-if false k m e = cc

pub cut-off : (r : Option (Bor (List ℕ))) (s p : List ℕ) → MatchOption r ((rest : List ℕ) → s ≢ p ++ rest) (λ x. s ≡ p ++ x.now) → IfSome r (λ x. s ≡ p ++ x.now) × (IsNone r → (rest : List ℕ) → ¬ (s ≡ p ++ rest))
cut-off None s p m = (tt, λ _ rest. m rest)
cut-off (Some x) s p m = (m, λ h. absurd (cc h))

pub found-more : (p q : ℕ → Bool) (o : Option ℕ) → ((r : ℕ) → IsTrue (p r) → IsTrue (q r)) → IsTrue (option_map_or p o false) → IsTrue (option_map_or q o false)
found-more p q None g h = h
found-more p q (Some r) g h = g r h

pub not-some : {A : Type 0} (o : Option A) → ((x : A) → o ≡ Some x → ⊥) → o ≡ None
not-some None n = refl
not-some (Some x) n = absurd (n x refl)

pub same-some : {A : Type 0} (o : Option A) (x y : A) → o ≡ Some x → o ≡ Some y → x ≡ y
same-some o x y e f = let q : Some x ≡ Some y = sym e ∙ f in cc q

pub none-some : {A : Type 0} (o : Option A) (s : A) → o ≡ None → o ≡ Some s → ⊥
none-some o s e f = cc

pub some-eq : {A : Type 0} (y x : A) → Some y ≡ Some x → y ≡ x
some-eq y x e = ap (λ o. unwrap_or o y) e

pub some-none : {A : Type 0} (x : A) → Some x ≡ None → ⊥
some-none x e = cc

pub then-some : {A : Type 0} (f : A → Option A) (o : Option A) (y : A) → option_and_then f o ≡ Some y → (x : A) × (o ≡ Some x) × (f x ≡ Some y)
then-some f None y e = cc e
then-some f (Some x) y e = (x, refl, e)

pub some_injective : {A : Type 0} {x : A} (y : A) → Some y ≡ Some x → y ≡ x
some_injective y e = ap (λ o. unwrap_or o y) e

pub none_some : {A : Type 0} {x : A} → None ≡ Some x → ⊥
none_some {A} {x} e = let o : Option A = Some x in false≢true (ap is_some e)
