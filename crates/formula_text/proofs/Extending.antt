-- What a list begins with, it begins with after more is appended.
use Rattle.std.proofs.Common.{◌≡◌, List, [], ◌++◌, take, length, sym, ◌∙◌, ap, append_assoc, append-nil}
use Rattle.std.proofs.Math.Seq.{take-append_seam}
use Rattle.formula_text.specs.Extends.{Extends}

pub Extends-refl : {A : Type 0} (a : List A) → Extends a a
Extends-refl a = record { more = []; all = sym (append-nil a) }

pub Extends-appended : {A : Type 0} (a t b : List A) → b ≡ a ++ t → Extends a b
Extends-appended a t b e = record { more = t; all = e }

pub Extends-trans : {A : Type 0} (a b c : List A) → Extends a b → Extends b c → Extends a c
Extends-trans a b c h k = record { more = h.more ++ k.more; all = k.all ∙ ap (λ l. l ++ k.more) h.all ∙ append_assoc a h.more k.more }

pub Extends-take : {A : Type 0} (a b : List A) → Extends a b → take (length a) b ≡ a
Extends-take a b h = ap (take (length a)) h.all ∙ take-append_seam a h.more

pub Extends-five : {A : Type 0} (a b c d e f : List A) → Extends a b → Extends b c → Extends c d → Extends d e → Extends e f → Extends a f
Extends-five a b c d e f p q r s t = Extends-trans a c f (Extends-trans a b c p q) (Extends-trans c e f (Extends-trans c d e r s) t)

pub ruleset extending = (Extends-refl, Extends-appended, Extends-trans, Extends-take)
