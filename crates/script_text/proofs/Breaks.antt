-- bytes are a transcript, or they break off at one line
use Rattle.std.proofs.Common.{◌≡◌, ◌≢◌, ℕ, ◌+◌, Bool, true, false, List, [], ◌∷◌, ◌++◌, length, Option, Some, None, Result, map, refl, ap, sym, ◌∙◌, subst, append_assoc, append-nil, arith, length-append}
use Rattle.std.specs.Prelude.{◌==◌, if◌then◌else◌, option_and_then, MatchResult}
use Rattle.std.specs.List.{All, flat_map, join_with_byte, onto_first}
use Rattle.std.proofs.lemmas.Bool.{eqb-false}
use Rattle.std.proofs.lemmas.List.Concat.{flat_map-append}
use Rattle.std.proofs.lemmas.List.Elements.{All-head, All-tail, All-nil, All-cons, All-push}
use Rattle.std.proofs.lemmas.List.Splits.{join_with_byte-slice_split}
use Rattle.vb_events.specs.declared.event.Group.{Group}
use Rattle.script_text.specs.Lines.{ended}
use Rattle.script_text.specs.Transcript.{print_of}
use Rattle.script_text.specs.Held.{IsGroupHeld}
use Rattle.script_text.specs.ReadBack.{IsTranscript, GoesOn, IsPlain, BreaksAt, line_text, line_of, put_line, put_text, or_bad, if_closed, at_end, read_from, cut_lines, none_read, transcript_of}
use Rattle.script_text.specs.declared.read_lines.Line.{Line}
use Rattle.script_text.specs.declared.read_transcript.{Opened.{Opened}, Reading.{Reading}}
use Rattle.script_text.specs.declared.script.BadLine.{BadLine}
use Rattle.script_text.proofs.Helds.{IsLineHeld}
use Rattle.script_text.proofs.Rows.{First, first_part}
use Rattle.script_text.proofs.Endings.{not_plain, same_line, same_lines, next_line}
use Rattle.script_text.proofs.LineReads.{line_back, line_read, texts_plain, same_texts, text_stands}
use Rattle.script_text.proofs.Placed.{map_both, all_lines, groups_spelled, lines_held, groups_held, front_held, Leads, leads_to_one, leads_through, closed_at, transcript_leads, read_lines, read_leads, put_lines, begun}

-- ---- what was read are these lines

pub record IsRead (reading : Reading) (front : List (List ℕ)) : Type 0 where
  pub texts : front ≡ map line_text (read_lines reading)
  pub held : All IsLineHeld (read_lines reading)

front_plain : (reading : Reading) (front : List (List ℕ)) → IsRead reading front → All IsPlain front
front_plain reading front h = subst (λ ls. All IsPlain ls) (sym h.texts) (texts_plain (read_lines reading) h.held)

-- a transcript begins with them
pub goes_on : (reading : Reading) (front : List (List ℕ)) → IsRead reading front → GoesOn (flat_map ended front)
goes_on reading front h =
    let b = begun reading h.held in
    record {
      groups = b.groups;
      more = flat_map ended (map line_text b.behind);
      begins =
          groups_spelled b.groups
          ∙ ap (λ ls. flat_map ended (map line_text ls)) b.are
          ∙ ap (flat_map ended) (map_both (read_lines reading) b.behind)
          ∙ flat_map-append ended (map line_text (read_lines reading)) (map line_text b.behind)
          ∙ ap (λ ls. flat_map ended ls ++ flat_map ended (map line_text b.behind)) (sym h.texts);
      held = b.held;
    }

-- ---- a line that is not put

-- a transcript that goes on with a line has that line in place behind what was read
record Fits (reading : Reading) (text : List ℕ) : Type 0 where
  next : Reading
  is : put_text reading text ≡ Some next

fits : (reading : Reading) (front : List (List ℕ)) (text more : List ℕ) (groups : List Group) → IsRead reading front → IsPlain text → All IsGroupHeld groups
    → print_of groups ≡ (flat_map ended front ++ ended text) ++ more → Fits reading text
fits reading front text more groups h plain held e =
    let lines = lines_held groups held in
    let next =
    next_line (map line_text (all_lines groups)) front text more (texts_plain (all_lines groups) lines) (front_plain reading front h) plain
    (sym (groups_spelled groups) ∙ e ∙ append_assoc (flat_map ended front) (ended text) more) in
    let stands = text_stands (all_lines groups) (read_lines reading) text next.more lines h.held (next.are ∙ ap (λ ls. ls ++ text ∷ next.more) h.texts) in
    let leads = subst (λ ls. Leads none_read ls (closed_at groups)) stands.are (transcript_leads groups) in
    let put = leads_through none_read reading (closed_at groups) (read_lines reading) stands.line stands.more (read_leads reading) leads in
    record {
      next = put.0;
      is = ap (λ t. option_and_then (put_line reading) (line_of t)) stands.text_is ∙ ap (option_and_then (put_line reading)) (line_back stands.line stands.held) ∙ put.1;
    }

none_fits : (reading : Reading) (text : List ℕ) → put_text reading text ≡ None → ¬ Fits reading text
none_fits reading text e h = let bad : None ≡ Some h.next = sym e ∙ h.is in absurd (cc bad)

-- the lines that were read are those of a transcript, so all are closed
all_read : (reading : Reading) (front : List (List ℕ)) (rest : List ℕ) (groups : List Group) → IsRead reading front → IsPlain rest → All IsGroupHeld groups
    → print_of groups ≡ flat_map ended front ++ rest → (closed_at groups ≡ reading) × (rest ≡ [])
all_read reading front rest groups h plain held e =
    let lines = lines_held groups held in
    let same = same_lines (map line_text (all_lines groups)) front rest (texts_plain (all_lines groups) lines) (front_plain reading front h) plain (sym (groups_spelled groups) ∙ e) in
    let are = same_texts (all_lines groups) (read_lines reading) lines h.held (same.0 ∙ h.texts) in
    (leads_to_one none_read (closed_at groups) reading (read_lines reading) (subst (λ ls. Leads none_read ls (closed_at groups)) are (transcript_leads groups)) (read_leads reading), same.1)

-- ---- where the bytes break off

-- the bytes have these lines and this rest, and the line of this number is next
record Cut (bytes : List ℕ) (number : ℕ) (front : List (List ℕ)) (rest : List ℕ) : Type 0 where
  joined : bytes ≡ flat_map ended front ++ rest
  number_is : number ≡ length front + 1

-- at a line that is not put
bad_line : (bytes : List ℕ) (number : ℕ) (reading : Reading) (front : List (List ℕ)) (text later : List ℕ) → Cut bytes number front (text ++ 10 ∷ later)
    → IsRead reading front → IsPlain text → put_text reading text ≡ None → BreaksAt bytes number
bad_line bytes number reading front text later cut h plain e =
    let rest = text ++ 10 ∷ later in
    let is : rest ≡ ended text ++ later = sym (append_assoc text (10 ∷ []) later) in
    record {
      lines = front;
      rest = rest;
      joined = cut.joined;
      plain = front_plain reading front h;
      number_is = cut.number_is;
      before = goes_on reading front h;
      whole = λ t more same p go.
          let one = same_line text t later more plain p (sym is ∙ same) in
          none_fits reading text e (fits reading front text go.more go.groups h plain go.held (go.begins ∙ ap (λ x. (flat_map ended front ++ ended x) ++ go.more) (sym one.0)));
      last = λ p groups is_one. absurd (not_plain text later (subst (λ x. IsPlain x) is p));
    }

-- where no whole line is left
bad_end : (bytes : List ℕ) (number : ℕ) (reading : Reading) (front : List (List ℕ)) (rest : List ℕ) → Cut bytes number front rest → IsRead reading front → IsPlain rest
    → ((groups : List Group) → closed_at groups ≡ reading → rest ≡ [] → ⊥) → BreaksAt bytes number
bad_end bytes number reading front rest cut h plain none = record {
  lines = front;
  rest = rest;
  joined = cut.joined;
  plain = front_plain reading front h;
  number_is = cut.number_is;
  before = goes_on reading front h;
  whole = λ t more same p go. not_plain t more (subst (λ x. IsPlain x) same plain);
  last = λ p groups is_one.
      let all = all_read reading front rest groups h plain is_one.held (sym is_one.printed ∙ cut.joined) in
      none groups all.0 all.1;
}

not_opened : (groups others : List Group) (o : Opened) → closed_at groups ≡ record { groups = others; opened = Some o } → ⊥
not_opened groups others o e = let bad : None ≡ Some o = ap (λ (r : Reading). r.opened) e in absurd (cc bad)

not_cons : (b : ℕ) (text : List ℕ) → b ∷ text ≡ [] → ⊥
not_cons b text e = absurd (cc e)

-- ---- the bytes are read to their end

-- what the answer says of the bytes
abbrev Judged : List ℕ → Result (List Group) BadLine → Type 0
Judged bytes read = MatchResult read (IsTranscript bytes) (λ bad. BreaksAt bytes bad.line)

by_opened : (bytes : List ℕ) (number : ℕ) (groups : List Group) (o : Option Opened) (front : List (List ℕ)) → Cut bytes number front []
    → IsRead (record { groups = groups; opened = o }) front → Judged bytes (if_closed number groups o)
by_opened bytes number groups None front cut h = record {
  printed =
      cut.joined
      ∙ append-nil (flat_map ended front)
      ∙ ap (flat_map ended) (h.texts ∙ ap (map line_text) (append-nil (all_lines groups)))
      ∙ sym (groups_spelled groups);
  held = groups_held groups (front_held (all_lines groups) [] h.held);
}
by_opened bytes number groups (Some o) front cut h =
    bad_end bytes number (record { groups = groups; opened = Some o }) front [] cut h (All-nil (λ b. b ≢ 10)) (λ others e nothing. not_opened others groups o e)

by_end : (bytes : List ℕ) (number : ℕ) (reading : Reading) (front : List (List ℕ)) (last : List ℕ) → Cut bytes number front last → IsRead reading front → IsPlain last
    → Judged bytes (at_end number reading last)
by_end bytes number reading front [] cut h plain = by_opened bytes number reading.groups reading.opened front cut h
by_end bytes number reading front (b ∷ last) cut h plain = bad_end bytes number reading front (b ∷ last) cut h plain (λ groups e nothing. not_cons b last nothing)

-- a line that is put stands behind those before it
record Puts (reading : Reading) (text : List ℕ) (next : Reading) : Type 0 where
  told : Line
  read : line_of text ≡ Some told
  put : put_line reading told ≡ Some next

puts_by : (reading : Reading) (text : List ℕ) (next : Reading) (o : Option Line) → line_of text ≡ o → option_and_then (put_line reading) o ≡ Some next → Puts reading text next
puts_by reading text next None e h = absurd (cc h)
puts_by reading text next (Some l) e h = record { told = l; read = e; put = h }

one_more : (reading next : Reading) (front : List (List ℕ)) (text : List ℕ) → IsRead reading front → put_text reading text ≡ Some next → IsRead next (front ++ text ∷ [])
one_more reading next front text h e =
    let p = puts_by reading text next (line_of text) refl e in
    let r = line_read text p.told p.read in
    let are = put_lines reading p.told next p.put in
    record {
      texts =
          ap (λ ls. ls ++ text ∷ []) h.texts
          ∙ ap (λ t. map line_text (read_lines reading) ++ t ∷ []) r.text_is
          ∙ sym (map_both (read_lines reading) (p.told ∷ []))
          ∙ ap (map line_text) (sym are);
      held = subst (λ ls. All IsLineHeld ls) (sym are) (All-push IsLineHeld (read_lines reading) p.told h.held r.held);
    }

cut_more : (bytes : List ℕ) (number : ℕ) (front : List (List ℕ)) (text later : List ℕ) → Cut bytes number front (text ++ 10 ∷ later) → Cut bytes (number + 1) (front ++ text ∷ []) later
cut_more bytes number front text later cut =
    let number_is = cut.number_is in
    let longer = length-append front (text ∷ []) in
    record {
      joined =
          cut.joined
          ∙ ap (λ rest. flat_map ended front ++ rest) (sym (append_assoc text (10 ∷ []) later))
          ∙ sym (append_assoc (flat_map ended front) (ended text) later)
          ∙ ap (λ line. (flat_map ended front ++ line) ++ later) (sym (append-nil (ended text)))
          ∙ ap (λ lines. lines ++ later) (sym (flat_map-append ended front (text ∷ [])));
      number_is = omega (arith, number_is, longer);
    }

by_put : (bytes : List ℕ) (number : ℕ) (reading : Reading) (front : List (List ℕ)) (text later : List ℕ) (o : Option Reading)
    (more : Reading → Result (List Group) BadLine) → put_text reading text ≡ o → Cut bytes number front (text ++ 10 ∷ later) → IsRead reading front → IsPlain text
    → ((next : Reading) → IsRead next (front ++ text ∷ []) → Judged bytes (more next)) → Judged bytes (or_bad number o more)
by_put bytes number reading front text later None more e cut h plain go = bad_line bytes number reading front text later cut h plain e
by_put bytes number reading front text later (Some next) more e cut h plain go = go next (one_more reading next front text h e)

read_all : (bytes : List ℕ) (number : ℕ) (reading : Reading) (front : List (List ℕ)) (text : List ℕ) (parts : List (List ℕ)) → Cut bytes number front (join_with_byte 10 (text ∷ parts))
    → IsRead reading front → All IsPlain (text ∷ parts) → Judged bytes (read_from number reading (text ∷ parts))
read_all bytes number reading front text [] cut h plain = by_end bytes number reading front text cut h (All-head IsPlain text [] plain)
read_all bytes number reading front text (next ∷ parts) cut h plain =
    by_put bytes number reading front text (join_with_byte 10 (next ∷ parts)) (put_text reading text) (λ r. read_from (number + 1) r (next ∷ parts)) refl cut h (All-head IsPlain text (next ∷ parts) plain)
    (λ r is_read. read_all bytes (number + 1) r (front ++ text ∷ []) next parts (cut_more bytes number front text (join_with_byte 10 (next ∷ parts)) cut) is_read (All-tail IsPlain text (next ∷ parts) plain))

-- ---- from the first line on

parts_by : (t : Bool) (b : ℕ) (parts : List (List ℕ)) → (t ≡ false → b ≢ 10) → All IsPlain parts → First parts → All IsPlain (if t then [] ∷ parts else onto_first b parts)
parts_by true b parts ne h first = All-cons IsPlain [] parts (All-nil (λ b. b ≢ 10)) h
parts_by false b [] ne h first = absurd (cc first.is)
parts_by false b (part ∷ parts) ne h first =
    All-cons IsPlain (b ∷ part) parts (All-cons (λ b. b ≢ 10) b part (ne refl) (All-head IsPlain part parts h)) (All-tail IsPlain part parts h)

parts_plain : (bytes : List ℕ) → All IsPlain (cut_lines bytes)
parts_plain [] = All-cons IsPlain [] [] (All-nil (λ b. b ≢ 10)) (All-nil IsPlain)
parts_plain (b ∷ bytes) = parts_by (b == 10) b (cut_lines bytes) (eqb-false b 10) (parts_plain bytes) (first_part (λ b. b == 10) bytes)

by_parts : (bytes : List ℕ) (parts : List (List ℕ)) → First parts → bytes ≡ join_with_byte 10 parts → All IsPlain parts → Judged bytes (read_from 1 none_read parts)
by_parts bytes [] first joined plain = absurd (cc first.is)
by_parts bytes (text ∷ parts) first joined plain =
    read_all bytes 1 none_read [] text parts (record { joined = joined; number_is = refl }) (record { texts = refl; held = All-nil IsLineHeld }) plain

pub judged : (bytes : List ℕ) → MatchResult (transcript_of bytes) (IsTranscript bytes) (λ bad. BreaksAt bytes bad.line)
unfolding transcript_of
judged bytes = by_parts bytes (cut_lines bytes) (first_part (λ b. b == 10) bytes) (sym (join_with_byte-slice_split 10 bytes)) (parts_plain bytes)
