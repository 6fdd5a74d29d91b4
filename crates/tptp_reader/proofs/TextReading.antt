-- Reading the items of a text.
use Rattle.std.proofs.Common.{◌≡◌, ℕ, suc, Bool, List, [], ◌∷◌, ◌++◌, Err, refl, sym, ◌∙◌, ap, append_assoc, append-nil, subst, length, drop}
use Rattle.std.specs.Prelude.{IfSome}
use Rattle.tptp_lex.specs.Answers.{OnlySpace}
use Rattle.tptp_reader.specs.declared.fault.ReadFault.{ReadFault}
use Rattle.tptp_reader.specs.declared.fault.ReadFault.TheVariants as fault
use Rattle.tptp_reader.specs.declared.item.Item.{Item}
use Rattle.tptp_reader.specs.declared.terminal.Piece.{Piece}
use Rattle.tptp_reader.specs.Sources as tree
use Rattle.tptp_reader.specs.ItemView.{the_item}
use Rattle.tptp_reader.specs.Terminals.{Placed, terminals, offsets, Follow, no_token}
use Rattle.tptp_reader.specs.Pieces.{placed}
use Rattle.tptp_reader.specs.Grammar.{ItemTree, item_fits, item_tokens}
use Rattle.tptp_reader.specs.Meaning.{item_of, items_of}
use Rattle.tptp_reader.specs.Nesting.{item_nestings, text_nestings}
use Rattle.tptp_reader.specs.Faults.{TextLanguage, AreShallow, wrong, too_deep}
use Rattle.tptp_reader.specs.Reading.{HoldsItems, Outcome, reads, fails, IsReading}
use Rattle.tptp_reader.specs.Answers.{the_reading}
use Rattle.tptp_reader.specs.Following.{IsTextFault}
use Rattle.tptp_reader.specs.Spans.{AreRead}
use Rattle.tptp_reader.specs.ItemStanding.{ItemRead, ItemsUpTo}
use Rattle.tptp_reader.proofs.FaultLaws.{terminals-append}
use Rattle.tptp_reader.proofs.OneReading.{one-reading}
use Rattle.tptp_reader.proofs.RunLaws.{follow-join}
use Rattle.tptp_reader.proofs.SpanLaws.{read-join}
use Rattle.tptp_reader.proofs.ReadLaws.{text-shallow}
use Rattle.tptp_reader.proofs.PlacingLaws.{placing-follow}
use Rattle.tptp_reader.proofs.ItemReading.{offsets-append, flat-snoc, all-snoc}

terminals-length : (ps : List Placed) → length (terminals ps) ≡ length (offsets ps)
terminals-length [] = refl
terminals-length (p ∷ ps) = ap suc (terminals-length ps)

drop-behind : (xs ys : List ℕ) → drop (length xs) (xs ++ ys) ≡ ys
drop-behind [] ys = refl
drop-behind (x ∷ xs) ys = drop-behind xs ys

pub items-begun : {modal : Bool} {text : List ℕ} {read : List tree.Item} → read ≡ [] → ItemsUpTo modal text read 0
items-begun {modal} {text} {read} e = record { tokens = []; trees = []; there = no_token 0; written = refl; fit = refl; shallow = refl; value = λ is more. ap (λ z. z ++ items_of more is) (sym e) }

-- what stands behind an item is left
rest-left : (i : ItemTree) (is : List ItemTree) (new : List Placed) (more : List ℕ) → terminals new ≡ item_tokens i → items_of (drop (length (item_tokens i)) (offsets new ++ more)) is ≡ items_of more is
rest-left i is new more e =
    let l : length (item_tokens i) ≡ length (offsets new) = ap length (sym e) ∙ terminals-length new in
    ap (λ z. items_of (drop z (offsets new ++ more)) is) l ∙ ap (λ z. items_of z is) (drop-behind (offsets new) more)

items-value : (tokens new : List Placed) (trees : List ItemTree) (i : ItemTree) (read : List tree.Item) (item : tree.Item) → terminals new ≡ item_tokens i
    → ((is : List ItemTree) (more : List ℕ) → items_of (offsets tokens ++ more) (trees ++ is) ≡ read ++ items_of more is) → ((more : List ℕ) → item ≡ item_of (offsets new ++ more) i)
    → (is : List ItemTree) (more : List ℕ) → items_of (offsets (tokens ++ new) ++ more) ((trees ++ i ∷ []) ++ is) ≡ (read ++ item ∷ []) ++ items_of more is
items-value tokens new trees i read item e v w is more =
    ap (λ z. items_of (z ++ more) ((trees ++ i ∷ []) ++ is)) (offsets-append tokens new)
    ∙ ap (λ z. items_of z ((trees ++ i ∷ []) ++ is)) (append_assoc (offsets tokens) (offsets new) more)
    ∙ ap (λ z. items_of (offsets tokens ++ (offsets new ++ more)) z) (append_assoc trees (i ∷ []) is)
    ∙ v (i ∷ is) (offsets new ++ more)
    ∙ ap (λ z. read ++ (z ∷ items_of (drop (length (item_tokens i)) (offsets new ++ more)) is)) (sym (w more))
    ∙ ap (λ z. read ++ (item ∷ z)) (rest-left i is new more e)
    ∙ sym (append_assoc read (item ∷ []) (items_of more is))

-- one item more
pub items-on : {modal : Bool} {text : List ℕ} {read : List tree.Item} {place : ℕ} {first last : Piece} {item : Item} (now : List tree.Item) → ItemsUpTo modal text read place → Follow text place (placed first ∷ []) first.end
    → ItemRead modal text first (item, last) → now ≡ read ++ the_item item ∷ [] → ItemsUpTo modal text now last.end
items-on {modal} {text} {read} {place} {first} {last} {item} now u f i n =
    let new : List Placed = i.front ++ placed last ∷ [] in
    record {
      tokens = u.tokens ++ new;
      trees = u.trees ++ i.item ∷ [];
      there = follow-join u.there (placing-follow place f i.stands);
      written = terminals-append u.tokens new ∙ (λ j. u.written j ++ i.written j) ∙ flat-snoc item_tokens u.trees i.item;
      fit = all-snoc (item_fits modal) u.trees i.item u.fit i.fits;
      shallow = subst (λ z. AreRead z) (flat-snoc item_nestings u.trees i.item) (read-join (text_nestings u.trees) (item_nestings i.item) u.shallow i.shallow);
      value = λ is more. items-value u.tokens new u.trees i.item read (the_item item) i.written u.value i.value is more ∙ ap (λ z. z ++ items_of more is) (sym n);
    }

pub items-done : {modal : Bool} {text : List ℕ} {read : List tree.Item} {place : ℕ} → ItemsUpTo modal text read place → OnlySpace text place → HoldsItems modal text read
items-done {modal} {text} {read} {place} u o = record {
  tokens = u.tokens;
  to = place;
  trees = u.trees;
  there = u.there;
  all = o;
  written = u.written;
  fit = u.fit;
  shallow = subst (λ z. AreShallow (TextLanguage modal) z) (sym u.written) (text-shallow modal u.trees u.fit u.shallow);
  meant = sym (append-nil read) ∙ sym (u.value [] []) ∙ ap (λ z. items_of z (u.trees ++ [])) (append-nil (offsets u.tokens)) ∙ ap (λ z. items_of (offsets u.tokens) z) (append-nil u.trees);
}

-- ---- the reading

-- a fault that is found is the only reading
pub fault-alone : (modal : Bool) (text : List ℕ) (f : ReadFault) → IsTextFault modal text f → IfSome (the_reading (Err f)) (λ o. (other : Outcome (List tree.Item)) → IsReading modal text other → other ≡ o)
fault-alone modal text (fault.At offset cause) h = λ other k. one-reading modal text other (fails (wrong offset cause)) k h
fault-alone modal text (fault.TooDeep offset) h = λ other k. one-reading modal text other (fails (too_deep offset)) k h
fault-alone modal text fault.NoMemory h = absurd h
