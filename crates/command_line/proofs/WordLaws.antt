-- The front of a word.
use Rattle.std.proofs.Common.{◌≡◌, ◌≢◌, ℕ, List, [], ◌∷◌, ◌++◌, ◌==◌, Bool, true, false, Option, None, Some, refl, sym, ◌∙◌, ap, drop, Bor, if◌then◌else◌}
use Rattle.std.proofs.lemmas.Bool.Decides.{Decides-eqb}
use Rattle.std.specs.Option.{MatchOption, option_map}
use Rattle.std.specs.Str.Pattern.{FindsTextPrefix, StripsPrefix}
use Rattle.command_line.specs.Table.{Word}
use Rattle.command_line.specs.CommandLine.{behind}

behind-front : (front rest : Word) → behind front (front ++ rest) ≡ Some rest
behind-front [] rest = refl
behind-front (b ∷ bs) rest =
    ap (λ t. if t then behind bs (bs ++ rest) else None) ((Decides-eqb b b).1 refl) ∙ behind-front bs rest

same_head : (b c : ℕ) (bs cs rest : Word) → b ≡ c → cs ≡ bs ++ rest → c ∷ cs ≡ b ∷ bs ++ rest
same_head b c bs cs rest e k = cc

by_head : (b c : ℕ) (bs cs : Word) (t : Bool) → (b == c) ≡ t → (((rest : Word) → cs ≢ bs ++ rest) → behind bs cs ≡ None) → ((rest : Word) → c ∷ cs ≢ b ∷ bs ++ rest) → (if t then behind bs cs else None) ≡ None
by_head b c bs cs true e tail h = tail (λ rest k. h rest (same_head b c bs cs rest ((Decides-eqb b c).0 e) k))
by_head b c bs cs false e tail h = refl

behind-other : (front w : Word) → ((rest : Word) → w ≢ front ++ rest) → behind front w ≡ None
behind-other [] w h = absurd (h w refl)
behind-other (b ∷ bs) [] h = refl
behind-other (b ∷ bs) (c ∷ cs) h = by_head b c bs cs (b == c) refl (behind-other bs cs) h

behind-front_of : (front w rest : Word) (n : ℕ) → w ≡ front ++ drop n w → rest ≡ drop n w → behind front w ≡ Some rest
behind-front_of front w rest n e k = ap (behind front) e ∙ behind-front front (drop n w) ∙ ap Some (sym k)

-- what std strips off is the front
pub stripped : (front w : Word) (r : Option (Bor (List ℕ))) → MatchOption r (FindsTextPrefix front w None) (λ x. StripsPrefix (FindsTextPrefix front) w x.now) → option_map (λ (x : Bor (List ℕ)). x.now) r ≡ behind front w
stripped front w None h = sym (behind-other front w h)
stripped front w (Some x) h = sym (behind-front_of front w x.now h.0 h.1.1 h.2)
