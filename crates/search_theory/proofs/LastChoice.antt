-- Growth by one more choice at the end of a list.
use Rattle.std.proofs.Common.{◌≡◌, List, [], ◌∷◌, ◌++◌, refl, sym, ◌∙◌, ap, ap₂, Option, Some, None, option_and_then}
use Rattle.calculus.specs.Syntax.{Problem}
use Rattle.calculus.specs.Choices.{start, reduction, extension, Choice, GroundChoice, choice_of, choices_of, Growth, after_start, grow_at, grow, growth_of}

abbrev pub grow_once : Problem → GroundChoice → Growth → Option Growth
grow_once P g x = grow_at P g x.open_goals x

nothing-after : (P : Problem) (o : Option Growth) → option_and_then (grow P []) o ≡ o
nothing-after P None = refl
nothing-after P (Some x) = refl

grow-last : (P : Problem) (cs : List GroundChoice) (g : GroundChoice) (x : Growth) → grow P (cs ++ g ∷ []) x ≡ option_and_then (grow_once P g) (grow P cs x)
grow-last P [] g x = nothing-after P (grow_once P g x)
grow-last P (c ∷ cs) g x = then-last (grow_at P c x.open_goals x) (λ y. grow-last P cs g y)
  where
    then-last : (o : Option Growth) → ((y : Growth) → grow P (cs ++ g ∷ []) y ≡ option_and_then (grow_once P g) (grow P cs y)) → option_and_then (grow P (cs ++ g ∷ [])) o ≡ option_and_then (grow_once P g) (option_and_then (grow P cs) o)
    then-last None h = refl
    then-last (Some y) h = h y

grow-started : (P : Problem) (cs : List GroundChoice) (g : GroundChoice) (o : Option Growth) → option_and_then (grow P (cs ++ g ∷ [])) o ≡ option_and_then (grow_once P g) (option_and_then (grow P cs) o)
grow-started P cs g None = refl
grow-started P cs g (Some x) = grow-last P cs g x

pub none≢some : {A : Type 0} {B : Type 0} (x : A) → None ≡ Some x → B
none≢some x e = cc e

-- one more choice grows what is grown
pub growth-last : (P : Problem) (gs : List GroundChoice) (g : GroundChoice) (x : Growth) → growth_of P gs ≡ Some x → growth_of P (gs ++ g ∷ []) ≡ grow_once P g x
growth-last P [] g x e = none≢some x e
growth-last P (start i ∷ cs) g x e = grow-started P cs g (after_start P i) ∙ ap (option_and_then (grow_once P g)) e
growth-last P (reduction up ∷ cs) g x e = none≢some x e
growth-last P (extension i place ∷ cs) g x e = none≢some x e

-- what has grown with a last choice
abbrev pub IsGrownBefore : Problem → List GroundChoice → GroundChoice → Growth → Type 0
IsGrownBefore P gs g y = (x : Growth) × (growth_of P gs ≡ Some x) × (grow_once P g x ≡ Some y)

before-some : (P : Problem) (g : GroundChoice) (o : Option Growth) (y : Growth) → option_and_then (grow_once P g) o ≡ Some y → (x : Growth) × (o ≡ Some x) × (grow_once P g x ≡ Some y)
before-some P g None y e = none≢some y e
before-some P g (Some x) y e = (x, refl, e)

-- the list before is not empty
pub growth-before : (P : Problem) (c : GroundChoice) (gs : List GroundChoice) (g : GroundChoice) (y : Growth) → growth_of P ((c ∷ gs) ++ g ∷ []) ≡ Some y → IsGrownBefore P (c ∷ gs) g y
growth-before P (start i) cs g y e = before-some P g (option_and_then (grow P cs) (after_start P i)) y (sym (grow-started P cs g (after_start P i)) ∙ e)
growth-before P (reduction up) cs g y e = none≢some y e
growth-before P (extension i place) cs g y e = none≢some y e

-- ---- lists with a last item

-- a list of ground choices whose names end with x
pub record EndsWith (gs : List GroundChoice) (c : List Choice) (x : Choice) : Type 0 where
  pub first : List GroundChoice
  pub last : GroundChoice
  pub is_list : gs ≡ first ++ last ∷ []
  pub first_names : choices_of first ≡ c
  pub last_name : choice_of last ≡ x

abbrev pub tail_of : {A : Type 0} → List A → List A
tail_of [] = []
tail_of (x ∷ xs) = xs

abbrev pub head_of : {A : Type 0} → A → List A → A
head_of d [] = d
head_of d (x ∷ xs) = x

pub ends-with : (gs : List GroundChoice) (c : List Choice) (x : Choice) → choices_of gs ≡ c ++ x ∷ [] → EndsWith gs c x
ends-with [] [] x e = cc e
ends-with [] (y ∷ c) x e = cc e
ends-with (g ∷ gs) [] x e = record { first = []; last = g; is_list = ap (λ hs. g ∷ hs) (no-more gs (ap tail_of e)); first_names = refl; last_name = ap (head_of x) e }
  where
    no-more : (hs : List GroundChoice) → choices_of hs ≡ [] → hs ≡ []
    no-more [] q = refl
    no-more (h ∷ hs) q = cc q
ends-with (g ∷ gs) (y ∷ c) x e =
    let h = ends-with gs c x (ap tail_of e) in
    record { first = g ∷ h.first; last = h.last; is_list = ap (λ hs. g ∷ hs) h.is_list; first_names = ap₂ (λ a b. a ∷ b) (ap (head_of x) e) h.first_names; last_name = h.last_name }
