-- a line is read exactly where it is the text of what is read
use Rattle.std.proofs.Common.{◌≡◌, ℕ, List, [], ◌∷◌, ◌++◌, Option, Some, None, map, refl, ap, sym, ◌∙◌, subst}
use Rattle.std.specs.Prelude.{if◌then◌else◌, IfSome}
use Rattle.std.specs.List.{All}
use Rattle.std.specs.Str.{bytes_eq}
use Rattle.std.specs.Cmp.Lexicographic.{bytes_decides}
use Rattle.std.proofs.lemmas.Option.{cond_some, same_Some}
use Rattle.std.proofs.lemmas.List.Elements.{All-head, All-tail, All-nil, All-cons}
use Rattle.script_text.specs.TakenLines.{line_taken}
use Rattle.script_text.specs.ReadBack.{IsPlain, line_text, if_text, line_of}
use Rattle.script_text.specs.declared.read_lines.Line.{Line}
use Rattle.script_text.specs.declared.read_lines.Line.TheVariants as line
use Rattle.script_text.proofs.LineWords.{Takes, event_takes, answer_takes, head_takes}
use Rattle.script_text.proofs.Helds.{IsLineHeld, taken_held}

line_takes : (l : Line) → IsLineHeld l → Takes (line_text l) l
unfolding line_text
line_takes (line.Head number) h = head_takes number h
line_takes (line.Event e) h = event_takes e h
line_takes (line.Answer a) h = answer_takes a h

pub line_plain : (l : Line) → IsLineHeld l → IsPlain (line_text l)
line_plain l h = (line_takes l h).plain

pub line_back : (l : Line) → IsLineHeld l → line_of (line_text l) ≡ Some l
unfolding line_of
line_back l h =
    ap (if_text (line_text l)) (line_takes l h).taken
    ∙ ap (λ t. if t then Some l else None) ((bytes_decides (line_text l) (line_text l)).1 refl)

-- what is read of a text
pub record Reads (text : List ℕ) (l : Line) : Type 0 where
  pub text_is : text ≡ line_text l
  pub held : IsLineHeld l

read_by : (text : List ℕ) (o : Option Line) (l : Line) → IfSome o IsLineHeld → if_text text o ≡ Some l → Reads text l
read_by text None l h e = absurd (cc e)
read_by text (Some m) l h e =
    let parts = cond_some (bytes_eq (line_text m) text) m l e in
    record {
      text_is = sym ((bytes_decides (line_text m) text).0 parts.0) ∙ ap line_text parts.1;
      held = subst IsLineHeld parts.1 h;
    }

pub line_read : (text : List ℕ) (l : Line) → line_of text ≡ Some l → Reads text l
unfolding line_of
line_read text l e = read_by text (line_taken text) l (taken_held text) e

-- ---- lines and their texts

pub texts_plain : (lines : List Line) → All IsLineHeld lines → All IsPlain (map line_text lines)
texts_plain [] h = All-nil IsPlain
texts_plain (l ∷ lines) h =
    All-cons IsPlain (line_text l) (map line_text lines) (line_plain l (All-head IsLineHeld l lines h)) (texts_plain lines (All-tail IsLineHeld l lines h))

same_text : (l k : Line) → IsLineHeld l → IsLineHeld k → line_text l ≡ line_text k → l ≡ k
same_text l k h g e = same_Some l k (sym (line_back l h) ∙ ap line_of e ∙ line_back k g)

same_head : (a b : List ℕ) (x y : List (List ℕ)) → a ∷ x ≡ b ∷ y → a ≡ b
same_head a b x y h = cc h

same_tail : (a b : List ℕ) (x y : List (List ℕ)) → a ∷ x ≡ b ∷ y → x ≡ y
same_tail a b x y h = cc h

-- lines of the same texts are the same
pub same_texts : (lines others : List Line) → All IsLineHeld lines → All IsLineHeld others → map line_text lines ≡ map line_text others → lines ≡ others
same_texts [] [] h g e = refl
same_texts [] (k ∷ others) h g e = absurd (cc e)
same_texts (l ∷ lines) [] h g e = absurd (cc e)
same_texts (l ∷ lines) (k ∷ others) h g e =
    let first = same_text l k (All-head IsLineHeld l lines h) (All-head IsLineHeld k others g) (same_head (line_text l) (line_text k) (map line_text lines) (map line_text others) e) in
    let more = same_texts lines others (All-tail IsLineHeld l lines h) (All-tail IsLineHeld k others g) (same_tail (line_text l) (line_text k) (map line_text lines) (map line_text others) e) in
    λ i. first i ∷ more i

-- the line of this text stands behind these lines
pub record Stands (lines others : List Line) (text : List ℕ) : Type 0 where
  pub line : Line
  pub more : List Line
  pub are : lines ≡ others ++ line ∷ more
  pub text_is : text ≡ line_text line
  pub held : IsLineHeld line

pub text_stands : (lines others : List Line) (text : List ℕ) (more : List (List ℕ)) → All IsLineHeld lines → All IsLineHeld others
    → map line_text lines ≡ map line_text others ++ text ∷ more → Stands lines others text
text_stands [] [] text more h g e = absurd (cc e)
text_stands (l ∷ lines) [] text more h g e = record {
  line = l;
  more = lines;
  are = refl;
  text_is = sym (same_head (line_text l) text (map line_text lines) more e);
  held = All-head IsLineHeld l lines h;
}
text_stands [] (k ∷ others) text more h g e = absurd (cc e)
text_stands (l ∷ lines) (k ∷ others) text more h g e =
    let behind = map line_text others ++ text ∷ more in
    let first = same_text l k (All-head IsLineHeld l lines h) (All-head IsLineHeld k others g) (same_head (line_text l) (line_text k) (map line_text lines) behind e) in
    let next = text_stands lines others text more (All-tail IsLineHeld l lines h) (All-tail IsLineHeld k others g) (same_tail (line_text l) (line_text k) (map line_text lines) behind e) in
    let are = next.are in
    record { line = next.line; more = next.more; are = λ i. first i ∷ are i; text_is = next.text_is; held = next.held }
