-- what holds of transcripts and of bytes that break off
use Rattle.std.proofs.Common.{◌≡◌, ◌≢◌, ℕ, zero, suc, ◌<◌, ◌+◌, Bool, false, ◌≤◌, List, [], ◌∷◌, ◌++◌, length, take, drop, Result, Ok, Err, map, refl, ap, sym, ◌∙◌, subst, append_assoc, append-nil, ◌⊎◌, inl, inr, arith, length-append, ◌*◌}
use Rattle.std.specs.Prelude.{◌==◌, if◌then◌else◌, MatchResult}
use Rattle.std.specs.List.{All, count_by, flat_map, onto_first}
use Rattle.std.proofs.lemmas.Bool.{cases_eq, cases_lt, ne_eqb}
use Rattle.std.proofs.lemmas.List.Concat.{flat_map-append}
use Rattle.std.proofs.lemmas.List.{length-map, take_all}
use Rattle.std.proofs.lemmas.List.Elements.{All-head, All-tail, All-nil, All-cons, All-push, All-weaker}
use Rattle.std.proofs.lemmas.List.Splits.{length-slice_split, slice_split_at, slice_split_none}
use Rattle.vb_events.specs.declared.event.Group.{Group}
use Rattle.script_text.specs.Lines.{ended, lines_of}
use Rattle.script_text.specs.Transcript.{print_of}
use Rattle.script_text.specs.Held.{IsGroupHeld}
use Rattle.script_text.specs.ReadBack.{cut_lines, IsTranscript, GoesOn, IsPlain, BreaksAt, line_text, none_read, transcript_of}
use Rattle.script_text.specs.declared.read_lines.Line.TheVariants as line
use Rattle.script_text.specs.declared.read_transcript.Reading.{Reading}
use Rattle.script_text.specs.declared.script.BadLine.{BadLine}
use Rattle.script_text.proofs.Endings.{first_line, same_line, same_lines}
use Rattle.script_text.proofs.LineReads.{texts_plain, same_texts}
use Rattle.script_text.proofs.Placed.{lines_in, all_lines, groups_spelled, lines_held, Leads, leads_to_one, closed_at, transcript_leads}
use Rattle.script_text.proofs.Breaks.{judged}

-- ---- one of both

pub printed : (groups : List Group) → All IsGroupHeld groups → IsTranscript (print_of groups) groups
printed groups h = record { printed = refl; held = h }

one_by : (bytes : List ℕ) (read : Result (List Group) BadLine) → MatchResult read (IsTranscript bytes) (λ bad. BreaksAt bytes bad.line)
    → ((groups : List Group) × IsTranscript bytes groups) ⊎ ((line : ℕ) × BreaksAt bytes line)
one_by bytes (Ok groups) h = inl (groups, h)
one_by bytes (Err bad) h = inr (bad.line, h)

pub one_holds : (bytes : List ℕ) → ((groups : List Group) × IsTranscript bytes groups) ⊎ ((line : ℕ) × BreaksAt bytes line)
one_holds bytes = one_by bytes (transcript_of bytes) (judged bytes)

-- a first line, with its newline
record Line (rest : List ℕ) : Type 0 where
  text : List ℕ
  more : List ℕ
  is : rest ≡ ended text ++ more
  plain : IsPlain text

longer : (b : ℕ) (rest : List ℕ) → b ≢ 10 → IsPlain rest ⊎ Line rest → IsPlain (b ∷ rest) ⊎ Line (b ∷ rest)
longer b rest ne (inl plain) = inl (All-cons (λ b. b ≢ 10) b rest ne plain)
longer b rest ne (inr l) = inr (record { text = b ∷ l.text; more = l.more; is = ap (λ t. b ∷ t) l.is; plain = All-cons (λ b. b ≢ 10) b l.text ne l.plain })

plain_or_line : (rest : List ℕ) → IsPlain rest ⊎ Line rest
plain_or_line [] = inl (All-nil (λ b. b ≢ 10))
plain_or_line (b ∷ rest) =
    elim (cases_eq b 10) [
      | inl e ↦ inr (record { text = []; more = rest; is = ap (λ c. c ∷ rest) e; plain = All-nil (λ b. b ≢ 10) })
      | inr ne ↦ longer b rest ne (plain_or_line rest)
    ]

both_by : (bytes : List ℕ) (groups : List Group) (number : ℕ) → IsTranscript bytes groups → (b : BreaksAt bytes number) → IsPlain b.rest ⊎ Line b.rest → ⊥
both_by bytes groups number h b (inl plain) = b.last plain groups h
both_by bytes groups number h b (inr l) =
    b.whole l.text l.more l.is l.plain
    (record {
      groups = groups;
      more = l.more;
      begins =
          sym h.printed
          ∙ b.joined
          ∙ ap (λ rest. flat_map ended b.lines ++ rest) l.is
          ∙ sym (append_assoc (flat_map ended b.lines) (ended l.text) l.more);
      held = h.held;
    })

pub not_both : (bytes : List ℕ) (groups : List Group) (line : ℕ) → IsTranscript bytes groups → BreaksAt bytes line → ⊥
not_both bytes groups line h b = both_by bytes groups line h b (plain_or_line b.rest)

-- ---- one transcript

pub one_transcript : (bytes : List ℕ) (groups others : List Group) → IsTranscript bytes groups → IsTranscript bytes others → groups ≡ others
one_transcript bytes groups others h k =
    let lines = lines_held groups h.held in
    let other_lines = lines_held others k.held in
    let same =
    same_lines (map line_text (all_lines groups)) (map line_text (all_lines others)) [] (texts_plain (all_lines groups) lines) (texts_plain (all_lines others) other_lines) (All-nil (λ b. b ≢ 10))
    (sym (groups_spelled groups) ∙ sym h.printed ∙ k.printed ∙ groups_spelled others ∙ sym (append-nil (flat_map ended (map line_text (all_lines others))))) in
    let are = same_texts (all_lines groups) (all_lines others) lines other_lines same.0 in
    ap (λ (r : Reading). r.groups)
    (leads_to_one none_read (closed_at groups) (closed_at others) (all_lines others) (subst (λ ls. Leads none_read ls (closed_at groups)) are (transcript_leads groups)) (transcript_leads others))

-- ---- one line

-- of two fronts the longer one has a line behind the other
record Behind (lines others : List (List ℕ)) (rest : List ℕ) : Type 0 where
  text : List ℕ
  lasts : List (List ℕ)
  more : List ℕ
  are : others ≡ lines ++ text ∷ lasts
  is : rest ≡ ended text ++ more
  plain : IsPlain text

behind : (lines others : List (List ℕ)) (rest more : List ℕ) → All IsPlain lines → All IsPlain others → length lines < length others
    → flat_map ended lines ++ rest ≡ flat_map ended others ++ more → Behind lines others rest
behind [] [] rest more h k less e = absurd (omega arith)
behind [] (other ∷ others) rest more h k less e = record {
  text = other;
  lasts = others;
  more = flat_map ended others ++ more;
  are = refl;
  is = e ∙ first_line other others more;
  plain = All-head IsPlain other others k;
}
behind (line ∷ lines) [] rest more h k less e = absurd (omega arith)
behind (line ∷ lines) (other ∷ others) rest more h k less e =
    let first = same_line line other (flat_map ended lines ++ rest) (flat_map ended others ++ more) (All-head IsPlain line lines h) (All-head IsPlain other others k) (sym (first_line line lines rest) ∙ e ∙ first_line other others more) in
    let b = behind lines others rest more (All-tail IsPlain line lines h) (All-tail IsPlain other others k) (omega arith) first.1 in
    let are = b.are in
    record { text = b.text; lasts = b.lasts; more = b.more; are = λ i. sym first.0 i ∷ are i; is = b.is; plain = b.plain }

-- what a transcript begins with, it begins with each front of
shorter : (front more : List ℕ) → GoesOn (front ++ more) → GoesOn front
shorter front more g = record { groups = g.groups; more = more ++ g.more; begins = g.begins ∙ append_assoc front more g.more; held = g.held }

no_later : (bytes : List ℕ) (number other : ℕ) (a : BreaksAt bytes number) (b : BreaksAt bytes other) → length a.lines < length b.lines → ⊥
no_later bytes number other a b less =
    let h = behind a.lines b.lines a.rest b.rest a.plain b.plain less (sym a.joined ∙ b.joined) in
    a.whole h.text h.more h.is h.plain
    (shorter (flat_map ended a.lines ++ ended h.text) (flat_map ended h.lasts)
    (subst (λ front. GoesOn front)
    (ap (flat_map ended) h.are ∙ flat_map-append ended a.lines (h.text ∷ h.lasts) ∙ sym (append_assoc (flat_map ended a.lines) (ended h.text) (flat_map ended h.lasts)))
    b.before))

pub one_line : (bytes : List ℕ) (line other : ℕ) → BreaksAt bytes line → BreaksAt bytes other → line ≡ other
one_line bytes line other a b =
    let left = a.number_is in
    let right = b.number_is in
    elim (cases_lt (length a.lines) (length b.lines)) [
      | inl less ↦ absurd (no_later bytes line other a b less)
      | inr least ↦
          elim (cases_lt (length b.lines) (length a.lines)) [
            | inl less ↦ absurd (no_later bytes other line b a less)
            | inr most ↦ omega (arith, left, right, least, most)
          ]
    ]

-- ---- the lines before it

first_of_lines : (line more : List ℕ) → IsPlain line → lines_of (ended line ++ more) ≡ line ∷ lines_of more
first_of_lines [] more h = refl
first_of_lines (b ∷ line) more h =
    let other = ne_eqb b 10 (All-head (λ b. b ≢ 10) b line h) in
    ap (λ t. if t then [] ∷ lines_of (ended line ++ more) else onto_first b (lines_of (ended line ++ more))) other
    ∙ ap (onto_first b) (first_of_lines line more (All-tail (λ b. b ≢ 10) b line h))

first_lines : (lines : List (List ℕ)) (rest : List ℕ) (count : ℕ) → All IsPlain lines → count ≤ length lines
    → take count (lines_of (flat_map ended lines ++ rest)) ≡ take count lines
first_lines lines rest zero h few = refl
first_lines [] rest (suc count) h few = absurd (omega arith)
first_lines (line ∷ lines) rest (suc count) h few =
    ap (λ text. take (suc count) (lines_of text)) (first_line line lines rest)
    ∙ ap (take (suc count)) (first_of_lines line (flat_map ended lines ++ rest) (All-head IsPlain line lines h))
    ∙ ap (λ more. line ∷ more) (first_lines lines rest count (All-tail IsPlain line lines h) (omega arith))

front_and_rest : (lines : List (List ℕ)) (count : ℕ) → flat_map ended lines ≡ flat_map ended (take count lines) ++ flat_map ended (drop count lines)
front_and_rest lines zero = refl
front_and_rest [] (suc count) = refl
front_and_rest (line ∷ lines) (suc count) =
    ap (λ more. ended line ++ more) (front_and_rest lines count)
    ∙ sym (append_assoc (ended line) (flat_map ended (take count lines)) (flat_map ended (drop count lines)))

pub earlier : (bytes : List ℕ) (line count : ℕ) → BreaksAt bytes line → count < line → GoesOn (flat_map ended (take count (lines_of bytes)))
earlier bytes line count b few =
    let number = b.number_is in
    let are = ap (λ text. take count (lines_of text)) b.joined ∙ first_lines b.lines b.rest count b.plain (omega (arith, number, few)) in
    subst (λ lines. GoesOn (flat_map ended lines)) (sym are)
    (shorter (flat_map ended (take count b.lines)) (flat_map ended (drop count b.lines)) (subst (λ front. GoesOn front) (front_and_rest b.lines count) b.before))

-- ---- the line itself

abbrev newline : ℕ → Bool
newline b = b == 10

cut_one : (line more : List ℕ) → IsPlain line → cut_lines (ended line ++ more) ≡ line ∷ cut_lines more
cut_one line more h =
    ap cut_lines (append_assoc line (10 ∷ []) more)
    ∙ slice_split_at newline line 10 more (All-weaker (λ b. b ≢ 10) (λ b. newline b ≡ false) (λ b ne. ne_eqb b 10 ne) line h) refl

cut_front : (lines : List (List ℕ)) (rest : List ℕ) → All IsPlain lines → cut_lines (flat_map ended lines ++ rest) ≡ lines ++ cut_lines rest
cut_front [] rest h = refl
cut_front (line ∷ lines) rest h =
    ap cut_lines (first_line line lines rest)
    ∙ cut_one line (flat_map ended lines ++ rest) (All-head IsPlain line lines h)
    ∙ ap (λ more. line ∷ more) (cut_front lines rest (All-tail IsPlain line lines h))

-- the newlines are those of the lines and those of the rest
newlines : (bytes : List ℕ) (line : ℕ) (b : BreaksAt bytes line) → count_by newline bytes ≡ length b.lines + count_by newline b.rest
newlines bytes line b =
    let all = length-slice_split newline bytes in
    let rest = length-slice_split newline b.rest in
    let parts = ap length (ap cut_lines b.joined ∙ cut_front b.lines b.rest b.plain) in
    let both = length-append b.lines (cut_lines b.rest) in
    omega (arith, all, rest, parts, both)

no_newlines : (text : List ℕ) → IsPlain text → count_by newline text ≡ 0
no_newlines text h =
    let parts = length-slice_split newline text in
    let one = ap length (slice_split_none newline text (All-weaker (λ b. b ≢ 10) (λ b. newline b ≡ false) (λ b ne. ne_eqb b 10 ne) text h)) in
    omega (arith, parts, one)

pub within : (bytes : List ℕ) (line : ℕ) → BreaksAt bytes line → line ≤ count_by newline bytes + 1
within bytes line b = let number = b.number_is in let all = newlines bytes line b in omega (arith, number, all)

here_by : (bytes : List ℕ) (line : ℕ) (b : BreaksAt bytes line) → IsPlain b.rest ⊎ Line b.rest → line ≤ count_by newline bytes
    → ¬ GoesOn (flat_map ended (take line (lines_of bytes)))
here_by bytes line b (inl plain) few go =
    let number = b.number_is in
    let all = newlines bytes line b in
    let rest = no_newlines b.rest plain in
    absurd (omega (arith, number, all, rest, few))
here_by bytes line b (inr l) few go =
    let number = b.number_is in
    let front = b.lines ++ l.text ∷ [] in
    let as_long = length-append b.lines (l.text ∷ []) in
    let longer : line ≡ length front = omega (arith, number, as_long) in
    let text = flat_map-append ended b.lines (l.text ∷ []) ∙ ap (λ line. flat_map ended b.lines ++ line) (append-nil (ended l.text)) in
    let joined =
    b.joined
    ∙ ap (λ rest. flat_map ended b.lines ++ rest) l.is
    ∙ sym (append_assoc (flat_map ended b.lines) (ended l.text) l.more)
    ∙ ap (λ front. front ++ l.more) (sym text) in
    let plain = All-push IsPlain b.lines l.text b.plain l.plain in
    let are =
    ap (λ bytes. take line (lines_of bytes)) joined
    ∙ first_lines front l.more line plain (omega (arith, longer))
    ∙ take_all line front (omega (arith, longer)) in
    b.whole l.text l.more l.is l.plain (subst (λ front. GoesOn front) (ap (flat_map ended) are ∙ text) go)

pub here : (bytes : List ℕ) (line : ℕ) → BreaksAt bytes line → line ≤ count_by newline bytes → ¬ GoesOn (flat_map ended (take line (lines_of bytes)))
here bytes line b few go = here_by bytes line b (plain_or_line b.rest) few go

-- ---- how many lines groups have

lines_are : (lines : List (List ℕ)) → All IsPlain lines → lines_of (flat_map ended lines) ≡ lines
lines_are [] h = refl
lines_are (line ∷ lines) h =
    first_of_lines line (flat_map ended lines) (All-head IsPlain line lines h) ∙ ap (λ more. line ∷ more) (lines_are lines (All-tail IsPlain line lines h))

group_count : (g : Group) → length (lines_in g) ≡ length g.events + 2
group_count g =
    let both = length-append (map line.Event g.events) (line.Answer g.answer ∷ []) in
    let events = length-map g.events line.Event in
    omega (arith, both, events)

lines_count : (groups : List Group) → length (all_lines groups) ≡ length (flat_map (λ (g : Group). g.events) groups) + 2 * length groups
lines_count [] = refl
lines_count (g ∷ groups) =
    let one = group_count g in
    let more = lines_count groups in
    let left = length-append (lines_in g) (all_lines groups) in
    let right = length-append g.events (flat_map (λ (g : Group). g.events) groups) in
    omega (arith, one, more, left, right)

pub counted : (groups : List Group) → All IsGroupHeld groups → length (lines_of (print_of groups)) ≡ length (flat_map (λ (g : Group). g.events) groups) + 2 * length groups
counted groups h =
    let plain = texts_plain (all_lines groups) (lines_held groups h) in
    ap length (ap lines_of (groups_spelled groups) ∙ lines_are (map line_text (all_lines groups)) plain)
    ∙ length-map (all_lines groups) line_text
    ∙ lines_count groups

-- ---- rows

found_by : (bytes : List ℕ) (groups : List Group) (read : Result (List Group) BadLine) → read ≡ Ok groups
    → MatchResult read (IsTranscript bytes) (λ bad. BreaksAt bytes bad.line) → IsTranscript bytes groups
found_by bytes groups read e h = subst (λ r. MatchResult r (IsTranscript bytes) (λ bad. BreaksAt bytes bad.line)) e h

pub found : (bytes : List ℕ) (groups : List Group) → transcript_of bytes ≡ Ok groups → IsTranscript bytes groups
found bytes groups e = found_by bytes groups (transcript_of bytes) e (judged bytes)

broken_by : (bytes : List ℕ) (number : ℕ) (read : Result (List Group) BadLine) → read ≡ Err (record { line = number })
    → MatchResult read (IsTranscript bytes) (λ bad. BreaksAt bytes bad.line) → BreaksAt bytes number
broken_by bytes number read e h = subst (λ r. MatchResult r (IsTranscript bytes) (λ bad. BreaksAt bytes bad.line)) e h

pub broken : (bytes : List ℕ) (number : ℕ) → transcript_of bytes ≡ Err (record { line = number }) → BreaksAt bytes number
broken bytes number e = broken_by bytes number (transcript_of bytes) e (judged bytes)
