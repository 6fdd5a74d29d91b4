-- The text of version 1 in pieces.
use Rattle.std.proofs.Common.{◌≡◌, ℕ, List, [], ◌∷◌, ◌++◌, map, IsTrue, ◌∙◌, refl, append_assoc, codes}
use Rattle.std.specs.List.{flat_map}
use Rattle.std.proofs.lemmas.Grind.{flat_map-append}
use Rattle.calculus.specs.declared.version.Version.TheVariants.{One}
use Rattle.calculus.specs.Syntax.{Problem}
use Rattle.calculus.specs.Derivations.{Derivation}
use Rattle.calculus.specs.DerivationText.{eigen_line, head_lines, is_printable, spare_line, step_line}
use Rattle.calculus.specs.Versions.{IsTextIn}
use Rattle.calculus.specs.FirstWrong.{line_bytes}

-- lists of lines one after the other
flat-five : (hs es ss xs ls : List (List ℕ)) → flat_map line_bytes hs ++ flat_map line_bytes es ++ flat_map line_bytes ss ++ flat_map line_bytes xs ++ flat_map line_bytes ls ≡ flat_map line_bytes (hs ++ (es ++ ss) ++ xs ++ ls)
flat-five hs es ss xs ls = simp (flat_map-append, append_assoc)

-- the text written piece by piece
pub text-by_steps : (P : Problem) (d : Derivation) (a b c e f : List ℕ) → IsTrue (is_printable P d)
    → a ≡ flat_map line_bytes (head_lines P d.limit) → b ≡ a ++ flat_map line_bytes (map eigen_line d.names.eigens) → c ≡ b ++ flat_map line_bytes (map spare_line d.names.spares)
    → e ≡ c ++ flat_map line_bytes (map (step_line P.symbols) d.steps) → f ≡ e ++ codes "end\n" → IsTextIn One P d f
text-by_steps P d a b c e f h p q r s t = record {
  printable = h;
  text = pieces a b c e f (flat_map line_bytes (head_lines P d.limit)) (flat_map line_bytes (map eigen_line d.names.eigens)) (flat_map line_bytes (map spare_line d.names.spares)) (flat_map line_bytes (map (step_line P.symbols) d.steps)) (codes "end\n") p q r s t
      ∙ flat-five (head_lines P d.limit) (map eigen_line d.names.eigens) (map spare_line d.names.spares) (map (step_line P.symbols) d.steps) (codes "end" ∷ []);
}
  where
    pieces : (a b c e f hs es ss xs ls : List ℕ) → a ≡ hs → b ≡ a ++ es → c ≡ b ++ ss → e ≡ c ++ xs → f ≡ e ++ ls → f ≡ hs ++ es ++ ss ++ xs ++ ls
    pieces a b c e f hs es ss xs ls p q r s t = rw (t, s, r, q, p) refl
