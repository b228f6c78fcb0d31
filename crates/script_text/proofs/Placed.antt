-- groups as lines, and lines that stand in place one behind the other
use Rattle.std.proofs.Common.{◌≡◌, ℕ, List, [], ◌∷◌, ◌++◌, Option, Some, None, map, refl, ap, sym, ◌∙◌, subst, append_assoc, append-nil}
use Rattle.std.specs.Prelude.{decimal, codes}
use Rattle.std.specs.List.{All, flat_map}
use Rattle.std.proofs.lemmas.List.Concat.{flat_map-append}
use Rattle.std.proofs.lemmas.List.Elements.{All-head, All-tail, All-nil, All-cons, All-append, All-map}
use Rattle.vb_events.specs.declared.event.Event.{Event}
use Rattle.vb_events.specs.declared.event.Answer.{Answer}
use Rattle.vb_events.specs.declared.event.Answer.TheVariants as answer
use Rattle.vb_events.specs.declared.event.Group.{Group}
use Rattle.script_text.specs.Lines.{ended}
use Rattle.script_text.specs.Transcript.{event_text, answer_text, group_text, print_of}
use Rattle.script_text.specs.Held.{IsEventHeld, IsAnswerHeld, IsGroupHeld}
use Rattle.script_text.specs.ReadBack.{line_text, put_behind, put_line, none_read}
use Rattle.script_text.specs.declared.read_lines.Line.{Line}
use Rattle.script_text.specs.declared.read_lines.Line.TheVariants as line
use Rattle.script_text.specs.declared.read_transcript.{Opened.{Opened}, Reading.{Reading}}
use Rattle.script_text.proofs.Helds.{IsLineHeld}

-- ---- the lines of groups

abbrev pub lines_in : Group → List Line
lines_in g = line.Head g.line ∷ map line.Event g.events ++ line.Answer g.answer ∷ []

abbrev pub all_lines : List Group → List Line
all_lines groups = flat_map lines_in groups

pub map_both : (xs ys : List Line) → map line_text (xs ++ ys) ≡ map line_text xs ++ map line_text ys
map_both [] ys = refl
map_both (x ∷ xs) ys = ap (λ more. line_text x ∷ more) (map_both xs ys)

events_spelled : (events : List Event) (a : Answer)
    → flat_map (λ event. ended (event_text event)) events ++ ended (answer_text a) ≡ flat_map ended (map line_text (map line.Event events ++ line.Answer a ∷ []))
unfolding line_text
events_spelled [] a = sym (append-nil (ended (answer_text a)))
events_spelled (e ∷ events) a =
    append_assoc (ended (event_text e)) (flat_map (λ event. ended (event_text event)) events) (ended (answer_text a))
    ∙ ap (λ more. ended (event_text e) ++ more) (events_spelled events a)

group_spelled : (g : Group) → group_text g ≡ flat_map ended (map line_text (lines_in g))
unfolding group_text line_text
group_spelled g =
    append_assoc (ended (codes "#" ++ decimal g.line)) (flat_map (λ event. ended (event_text event)) g.events) (ended (answer_text g.answer))
    ∙ ap (λ more. ended (codes "#" ++ decimal g.line) ++ more) (events_spelled g.events g.answer)

pub groups_spelled : (groups : List Group) → print_of groups ≡ flat_map ended (map line_text (all_lines groups))
groups_spelled [] = refl
groups_spelled (g ∷ groups) =
    ap (λ text. text ++ print_of groups) (group_spelled g)
    ∙ ap (λ more. flat_map ended (map line_text (lines_in g)) ++ more) (groups_spelled groups)
    ∙ sym (flat_map-append ended (map line_text (lines_in g)) (map line_text (all_lines groups)))
    ∙ ap (flat_map ended) (sym (map_both (lines_in g) (all_lines groups)))

-- ---- ranges

events_held : (events : List Event) (a : Answer) → All IsEventHeld events → IsAnswerHeld a → All IsLineHeld (map line.Event events ++ line.Answer a ∷ [])
events_held events a h k =
    All-append IsLineHeld (map line.Event events) (line.Answer a ∷ []) (All-map IsLineHeld line.Event events h) (All-cons IsLineHeld (line.Answer a) [] k (All-nil IsLineHeld))

pub lines_held : (groups : List Group) → All IsGroupHeld groups → All IsLineHeld (all_lines groups)
lines_held [] h = All-nil IsLineHeld
lines_held (g ∷ groups) h =
    let held = All-head IsGroupHeld g groups h in
    All-append IsLineHeld (lines_in g) (all_lines groups)
    (All-cons IsLineHeld (line.Head g.line) (map line.Event g.events ++ line.Answer g.answer ∷ []) held.0 (events_held g.events g.answer held.1 held.2))
    (lines_held groups (All-tail IsGroupHeld g groups h))

-- of lines in range those in front and those behind are
pub front_held : (xs ys : List Line) → All IsLineHeld (xs ++ ys) → All IsLineHeld xs
front_held [] ys h = All-nil IsLineHeld
front_held (x ∷ xs) ys h = All-cons IsLineHeld x xs (All-head IsLineHeld x (xs ++ ys) h) (front_held xs ys (All-tail IsLineHeld x (xs ++ ys) h))

rest_held : (xs ys : List Line) → All IsLineHeld (xs ++ ys) → All IsLineHeld ys
rest_held [] ys h = h
rest_held (x ∷ xs) ys h = rest_held xs ys (All-tail IsLineHeld x (xs ++ ys) h)

told_held : (events : List Event) (more : List Line) → All IsLineHeld (map line.Event events ++ more) → All IsEventHeld events
told_held [] more h = All-nil IsEventHeld
told_held (e ∷ events) more h =
    let behind = map line.Event events ++ more in
    All-cons IsEventHeld e events (All-head IsLineHeld (line.Event e) behind h) (told_held events more (All-tail IsLineHeld (line.Event e) behind h))

group_held : (g : Group) → All IsLineHeld (lines_in g) → IsGroupHeld g
group_held g h =
    let behind = map line.Event g.events ++ line.Answer g.answer ∷ [] in
    let rest = All-tail IsLineHeld (line.Head g.line) behind h in (
      All-head IsLineHeld (line.Head g.line) behind h,
      told_held g.events (line.Answer g.answer ∷ []) rest,
      All-head IsLineHeld (line.Answer g.answer) [] (rest_held (map line.Event g.events) (line.Answer g.answer ∷ []) rest),
    )

pub groups_held : (groups : List Group) → All IsLineHeld (all_lines groups) → All IsGroupHeld groups
groups_held [] h = All-nil IsGroupHeld
groups_held (g ∷ groups) h =
    All-cons IsGroupHeld g groups (group_held g (front_held (lines_in g) (all_lines groups) h)) (groups_held groups (rest_held (lines_in g) (all_lines groups) h))

-- ---- lines that were put

-- these lines in a row lead from what was read to this
abbrev pub Leads : Reading → List Line → Reading → Type 0
Leads reading [] last = reading ≡ last
Leads reading (l ∷ lines) last = (next : Reading) × (put_line reading l ≡ Some next) × Leads next lines last

pub leads_on : (reading middle last : Reading) (lines more : List Line) → Leads reading lines middle → Leads middle more last → Leads reading (lines ++ more) last
leads_on reading middle last [] more h k = subst (λ r. Leads r more last) (sym h) k
leads_on reading middle last (l ∷ lines) more h k = (h.0, h.1, leads_on h.0 middle last lines more h.2 k)

some_same : (a b : Reading) → Some a ≡ Some b → a ≡ b
some_same a b h = cc h

pub leads_to_one : (reading last other : Reading) (lines : List Line) → Leads reading lines last → Leads reading lines other → last ≡ other
leads_to_one reading last other [] h k = sym h ∙ k
leads_to_one reading last other (l ∷ lines) h k =
    let same = some_same h.0 k.0 (sym h.1 ∙ k.1) in
    leads_to_one h.0 last other lines h.2 (subst (λ r. Leads r lines other) (sym same) k.2)

-- where lines lead on, the first of the rest is in place behind those before it
pub leads_through : (reading middle last : Reading) (lines : List Line) (l : Line) (more : List Line) → Leads reading lines middle → Leads reading (lines ++ l ∷ more) last
    → (next : Reading) × (put_line middle l ≡ Some next)
leads_through reading middle last [] l more h k = (k.0, ap (λ r. put_line r l) (sym h) ∙ k.1)
leads_through reading middle last (x ∷ lines) l more h k =
    let same = some_same h.0 k.0 (sym h.1 ∙ k.1) in
    leads_through h.0 middle last lines l more h.2 (subst (λ r. Leads r (lines ++ l ∷ more) last) (sym same) k.2)

abbrev open_at : List Group → ℕ → List Event → Reading
open_at groups number events = record { groups = groups; opened = Some (record { line = number; events = events }) }

abbrev pub closed_at : List Group → Reading
closed_at groups = record { groups = groups; opened = None }

events_lead : (groups : List Group) (number : ℕ) (before events : List Event)
    → Leads (open_at groups number before) (map line.Event events) (open_at groups number (before ++ events))
events_lead groups number before [] = ap (open_at groups number) (sym (append-nil before))
events_lead groups number before (e ∷ events) = (
  open_at groups number (before ++ e ∷ []),
  refl,
  subst (λ es. Leads (open_at groups number (before ++ e ∷ [])) (map line.Event events) (open_at groups number es)) (append_assoc before (e ∷ []) events)
      (events_lead groups number (before ++ e ∷ []) events),
)

group_leads : (groups : List Group) (g : Group) → Leads (closed_at groups) (lines_in g) (closed_at (groups ++ g ∷ []))
group_leads groups g = (
  open_at groups g.line [],
  refl,
  leads_on (open_at groups g.line []) (open_at groups g.line g.events) (closed_at (groups ++ g ∷ [])) (map line.Event g.events) (line.Answer g.answer ∷ [])
      (events_lead groups g.line [] g.events) (closed_at (groups ++ g ∷ []), refl, refl),
)

groups_lead : (before groups : List Group) → Leads (closed_at before) (all_lines groups) (closed_at (before ++ groups))
groups_lead before [] = ap closed_at (sym (append-nil before))
groups_lead before (g ∷ groups) =
    leads_on (closed_at before) (closed_at (before ++ g ∷ [])) (closed_at (before ++ g ∷ groups)) (lines_in g) (all_lines groups) (group_leads before g)
    (subst (λ gs. Leads (closed_at (before ++ g ∷ [])) (all_lines groups) (closed_at gs)) (append_assoc before (g ∷ []) groups) (groups_lead (before ++ g ∷ []) groups))

pub transcript_leads : (groups : List Group) → Leads none_read (all_lines groups) (closed_at groups)
transcript_leads groups = groups_lead [] groups

-- ---- what was read, as lines

abbrev opened_lines : Option Opened → List Line
opened_lines None = []
opened_lines (Some o) = line.Head o.line ∷ map line.Event o.events

abbrev pub read_lines : Reading → List Line
read_lines reading = all_lines reading.groups ++ opened_lines reading.opened

opened_leads : (groups : List Group) (o : Option Opened) → Leads (closed_at groups) (opened_lines o) (record { groups = groups; opened = o })
opened_leads groups None = refl
opened_leads groups (Some o) = (open_at groups o.line [], refl, events_lead groups o.line [] o.events)

-- the lines that were read lead there
pub read_leads : (reading : Reading) → Leads none_read (read_lines reading) reading
read_leads reading =
    leads_on none_read (closed_at reading.groups) reading (all_lines reading.groups) (opened_lines reading.opened) (transcript_leads reading.groups) (opened_leads reading.groups reading.opened)

map_events : (events : List Event) (e : Event) → map line.Event (events ++ e ∷ []) ≡ map line.Event events ++ line.Event e ∷ []
map_events [] e = refl
map_events (x ∷ events) e = ap (λ more. line.Event x ∷ more) (map_events events e)

one_more : (groups : List Group) (g : Group) → all_lines (groups ++ g ∷ []) ++ [] ≡ all_lines groups ++ lines_in g
one_more groups g =
    append-nil (all_lines (groups ++ g ∷ []))
    ∙ flat_map-append lines_in groups (g ∷ [])
    ∙ ap (λ more. all_lines groups ++ more) (append-nil (lines_in g))

put_by : (groups : List Group) (o : Option Opened) (l : Line) (next : Reading) → put_behind groups o l ≡ Some next
    → read_lines next ≡ (all_lines groups ++ opened_lines o) ++ l ∷ []
put_by groups None (line.Head number) next h =
    ap read_lines (sym (some_same (open_at groups number []) next h)) ∙ ap (λ more. more ++ line.Head number ∷ []) (sym (append-nil (all_lines groups)))
put_by groups None (line.Event e) next h = absurd (cc h)
put_by groups None (line.Answer a) next h = absurd (cc h)
put_by groups (Some o) (line.Head number) next h = absurd (cc h)
put_by groups (Some o) (line.Event e) next h =
    ap read_lines (sym (some_same (open_at groups o.line (o.events ++ e ∷ [])) next h))
    ∙ ap (λ more. all_lines groups ++ line.Head o.line ∷ more) (map_events o.events e)
    ∙ sym (append_assoc (all_lines groups) (line.Head o.line ∷ map line.Event o.events) (line.Event e ∷ []))
put_by groups (Some o) (line.Answer a) next h =
    let g : Group = record { line = o.line; events = o.events; answer = a } in
    ap read_lines (sym (some_same (closed_at (groups ++ g ∷ [])) next h))
    ∙ one_more groups g
    ∙ sym (append_assoc (all_lines groups) (line.Head o.line ∷ map line.Event o.events) (line.Answer a ∷ []))

pub put_lines : (reading : Reading) (l : Line) (next : Reading) → put_line reading l ≡ Some next → read_lines next ≡ read_lines reading ++ l ∷ []
put_lines reading l next h = put_by reading.groups reading.opened l next h

-- ---- what was read, as the front of a transcript

-- groups that begin with the lines that were read
pub record Begun (lines : List Line) : Type 0 where
  pub groups : List Group
  pub behind : List Line
  pub are : all_lines groups ≡ lines ++ behind
  pub held : All IsGroupHeld groups

begun_by : (groups : List Group) (o : Option Opened) → All IsLineHeld (all_lines groups ++ opened_lines o) → Begun (all_lines groups ++ opened_lines o)
begun_by groups None h = record {
  groups = groups;
  behind = [];
  are = sym (ap (λ more. more ++ []) (append-nil (all_lines groups)) ∙ append-nil (all_lines groups));
  held = groups_held groups (front_held (all_lines groups) [] h);
}
begun_by groups (Some o) h =
    let g : Group = record { line = o.line; events = o.events; answer = answer.Ok } in
    let are = sym (append-nil (all_lines (groups ++ g ∷ []))) ∙ one_more groups g ∙ sym (append_assoc (all_lines groups) (line.Head o.line ∷ map line.Event o.events) (line.Answer answer.Ok ∷ [])) in
    record {
      groups = groups ++ g ∷ [];
      behind = line.Answer answer.Ok ∷ [];
      are = are;
      held =
          groups_held (groups ++ g ∷ [])
          (subst (λ lines. All IsLineHeld lines) (sym are)
          (All-append IsLineHeld (all_lines groups ++ (line.Head o.line ∷ map line.Event o.events)) (line.Answer answer.Ok ∷ []) h
          (All-cons IsLineHeld (line.Answer answer.Ok) [] tt (All-nil IsLineHeld))));
    }

pub begun : (reading : Reading) → All IsLineHeld (read_lines reading) → Begun (read_lines reading)
begun reading h = begun_by reading.groups reading.opened h
