-- different groups print different texts
use Rattle.std.proofs.Common.{◌≡◌, ℕ, List, [], ◌∷◌, ◌++◌, Option, Some, None, refl, ap, sym, ◌∙◌, append_assoc}
use Rattle.std.specs.Prelude.{◌==◌, if◌then◌else◌, codes, decimal}
use Rattle.std.specs.List.{All, flat_map}
use Rattle.std.specs.Str.{bytes_eq}
use Rattle.std.proofs.lemmas.List.Elements.{All-head, All-tail}
use Rattle.vb_events.specs.declared.event.Event.{Event}
use Rattle.vb_events.specs.declared.event.Event.TheVariants as event
use Rattle.vb_events.specs.declared.event.Answer.{Answer}
use Rattle.vb_events.specs.declared.event.Answer.TheVariants as answer
use Rattle.vb_events.specs.declared.event.Group.{Group}
use Rattle.script_text.specs.Lines.{ended}
use Rattle.script_text.specs.Numbers.{number_of}
use Rattle.script_text.specs.Ranges.{IsWide, IsEventRanged, IsAnswerRanged, IsGroupRanged}
use Rattle.script_text.specs.Transcript.{why_text, event_words, event_text, answer_text, group_text, print_of}
use Rattle.script_text.proofs.Decimals.{number_of-decimal}
use Rattle.script_text.proofs.Words.{upto, past, found, found_at, ends, digit_no_end, decimal_clean, reading, read_word, in_row, spaced_in_row}
use Rattle.script_text.proofs.KindWords.{role_of, role_back, level_of, level_back, sent_of, sent_back, reason_of, reason_back, why_of, why_back, cause_of, cause_back}
use Rattle.script_text.proofs.Fields.{number_back, place_in, place_back, hex_of, hex_back, link_of, link_back, stream_of, stream_back, parent_of, parent_back, doc_in, doc_back, ask_in, ask_back, extent_in, extent_back, act_in, act_back, log_of, log_back, asked_in, asked_back}

-- what a line tells: a group's number, an event or an answer
pub data Item : Type 0 where
  Head : ℕ → Item
  Told : Event → Item
  Said : Answer → Item

abbrev item_text : Item → List ℕ
item_text (Head number) = ended (codes "#" ++ decimal number)
item_text (Told e) = ended (event_text e)
item_text (Said a) = ended (answer_text a)

abbrev IsItemRanged : Item → Type 0
IsItemRanged (Head number) = IsWide number
IsItemRanged (Told e) = IsEventRanged e
IsItemRanged (Said a) = IsAnswerRanged a

-- ---- a line, read back

-- an item and the text behind it
abbrev Reads : Type 0
Reads = Option (Item × List ℕ)

abbrev told : Event → List ℕ → Reads
told e text = Some (Told e, text)

abbrev count_of : List ℕ → Reads
count_of text =
    if found ends text == 10 then reading number_of text (λ number text. Some (Said (answer.Number number), text))
    else reading number_of text (λ frames text. reading why_of text (λ why text. Some (Said (answer.Pulled frames why), text)))

abbrev answer_in : List ℕ → ℕ → List ℕ → Reads
answer_in word mark text =
    if bytes_eq word (codes "ok") then (if mark == 10 then Some (Said answer.Ok, text) else count_of text)
    else reading cause_of text (λ cause text. Some (Said (answer.No cause), text))

abbrev branch_in : List ℕ → Reads
branch_in text =
    place_in text (λ node vb text. reading number_of text (λ uuid text. reading parent_of text (λ parent text.
    reading number_of text (λ fork text. reading number_of text (λ high text. told (event.Branch node vb uuid parent fork high) text)))))

abbrev change_in : List ℕ → Reads
change_in text =
    place_in text (λ node vb text. reading number_of text (λ uuid text. reading number_of text (λ seq text.
    act_in text (λ key act text. told (event.Changed node vb uuid (record { seq = seq; key = key; act = act })) text))))

abbrev reply_in : List ℕ → Reads
reply_in text =
    reading number_of text (λ node text. reading number_of text (λ client text. reading hex_of text (λ bytes text. told (event.Reply node client bytes) text)))

abbrev closed_in : List ℕ → Reads
closed_in text = reading number_of text (λ node text. reading number_of text (λ client text. told (event.Closed node client) text))

abbrev request_in : List ℕ → Reads
request_in text =
    reading stream_of text (λ stream text. place_in text (λ node vb text. ask_in text (λ ask text.
    asked_in text (λ high log answer text. told (event.Asked stream node vb ask high log answer) text))))

abbrev mark_in : List ℕ → Reads
mark_in text =
    reading stream_of text (λ stream text. reading number_of text (λ start text. reading number_of text (λ end text.
    reading number_of text (λ flags text. told (event.Marked stream start end flags) text))))

abbrev item_in : List ℕ → Reads
item_in text =
    reading stream_of text (λ stream text. reading number_of text (λ seq text. reading sent_of text (λ act text.
    reading hex_of text (λ key text. told (event.Item stream seq act key) text))))

abbrev fin_in : List ℕ → Reads
fin_in text = reading stream_of text (λ stream text. reading number_of text (λ reason text. told (event.Finished stream reason) text))

abbrev state_in : List ℕ → Reads
state_in text = reading stream_of text (λ stream text. reading role_of text (λ role text. told (event.Stated stream role) text))

abbrev adopt_in : List ℕ → Reads
adopt_in text = place_in text (λ node vb text. reading log_of text (λ log text. told (event.Adopted node vb log) text))

abbrev range_in : List ℕ → Reads
range_in text = place_in text (λ node vb text. reading number_of text (λ ss text. reading number_of text (λ se text. told (event.Ranged node vb ss se) text)))

abbrev got_in : List ℕ → Reads
got_in text =
    place_in text (λ node vb text. reading stream_of text (λ stream text. reading number_of text (λ seq text.
    act_in text (λ key act text. told (event.Got node vb stream (record { seq = seq; key = key; act = act })) text))))

abbrev rolled_in : List ℕ → Reads
rolled_in text = place_in text (λ node vb text. reading number_of text (λ named text. reading number_of text (λ to text. told (event.Rolled node vb named to) text)))

abbrev ack_in : List ℕ → Reads
ack_in text =
    reading stream_of text (λ stream text. place_in text (λ node vb text. reading number_of text (λ seq text. reading number_of text (λ saved text.
    told (event.Acknowledged stream node vb seq saved) text))))

abbrev acked_in : List ℕ → Reads
acked_in text =
    reading stream_of text (λ stream text. place_in text (λ node vb text. reading number_of text (λ member text. reading number_of text (λ seq text.
    told (event.Counted stream node vb member seq) text))))

abbrev end_in : List ℕ → Reads
end_in text = reading link_of text (λ link text. reading reason_of text (λ reason text. told (event.Ended link reason) text))

abbrev shown_in : List ℕ → Reads
shown_in text =
    place_in text (λ node vb text. reading role_of text (λ role text. reading number_of text (λ uuid text.
    extent_in text (λ at ss se docs preps text. told (event.Shown node vb role uuid at ss se docs preps) text))))

abbrev logged_in : List ℕ → Reads
logged_in text = place_in text (λ node vb text. reading log_of text (λ log text. told (event.Logged node vb log) text))

abbrev batch_in : List ℕ → Reads
batch_in text =
    place_in text (λ node vb text. reading number_of text (λ ss text. reading number_of text (λ se text.
    reading number_of text (λ at text. reading number_of text (λ count text. told (event.Batch node vb ss se at count) text)))))

abbrev stat_in : List ℕ → Reads
stat_in text =
    place_in text (λ node vb text. reading number_of text (λ windows text. reading number_of text (λ items text. reading number_of text (λ cursors text.
    reading number_of text (λ saved text. reading number_of text (λ high text. told (event.Stat node vb windows items cursors saved high) text))))))

abbrev line_in : List ℕ → ℕ → List ℕ → List ℕ → Reads
line_in word mark text whole =
    if bytes_eq word (codes "branch") then branch_in text
    else if bytes_eq word (codes "role") then place_in text (λ node vb text. reading role_of text (λ role text. told (event.Role node vb role) text))
    else if bytes_eq word (codes "change") then change_in text
    else if bytes_eq word (codes "reply") then reply_in text
    else if bytes_eq word (codes "closed") then closed_in text
    else if bytes_eq word (codes "ask") then request_in text
    else if bytes_eq word (codes "mark") then mark_in text
    else if bytes_eq word (codes "item") then item_in text
    else if bytes_eq word (codes "fin") then fin_in text
    else if bytes_eq word (codes "state") then state_in text
    else if bytes_eq word (codes "adopt") then adopt_in text
    else if bytes_eq word (codes "range") then range_in text
    else if bytes_eq word (codes "got") then got_in text
    else if bytes_eq word (codes "rolled") then rolled_in text
    else if bytes_eq word (codes "ack") then ack_in text
    else if bytes_eq word (codes "acked") then acked_in text
    else if bytes_eq word (codes "end") then end_in text
    else if bytes_eq word (codes "shown") then shown_in text
    else if bytes_eq word (codes "logged") then logged_in text
    else if bytes_eq word (codes "doc") then reading hex_of text (λ key text. doc_in text (λ doc text. told (event.Document key doc) text))
    else if bytes_eq word (codes "prep") then reading hex_of text (λ key text. reading number_of text (λ seq text. reading level_of text (λ level text. told (event.Prepared key seq level) text)))
    else if bytes_eq word (codes "batch") then batch_in text
    else if bytes_eq word (codes "stat") then stat_in text
    else if bytes_eq word (codes "failed") then reading number_of text (λ node text. told (event.CallFailed node) text)
    else if bytes_eq word (codes "stopped") then reading number_of text (λ node text. told (event.NodeStopped node) text)
    else if bytes_eq word (codes "ok") then answer_in word mark text
    else if bytes_eq word (codes "no") then answer_in word mark text
    else reading link_of whole (λ number text. Some (Head number, text))

abbrev item_at : List ℕ → Reads
item_at [] = None
item_at (b ∷ text) = line_in (upto ends (b ∷ text)) (found ends (b ∷ text)) (past ends (b ∷ text)) (b ∷ text)

event_back : (e : Event) (rest : List ℕ) → IsEventRanged e → item_at (in_row (event_words e) 10 rest) ≡ told e rest
event_back (event.Branch node vb uuid parent fork high) rest h =
    place_back node vb 32 _ _ h.0 h.1 refl ∙ number_back uuid 32 _ _ h.2 refl ∙ parent_back parent 32 _ _ h.3 refl ∙ number_back fork 32 _ _ h.4 refl ∙ number_back high 10 _ _ h.5 refl
event_back (event.Role node vb role) rest h = place_back node vb 32 _ _ h.0 h.1 refl ∙ role_back role 10 _ _ refl
event_back (event.Changed node vb uuid change) rest h =
    place_back node vb 32 _ _ h.0 h.1 refl ∙ number_back uuid 32 _ _ h.2 refl ∙ number_back change.seq 32 _ _ h.3.0 refl ∙ act_back change.key change.act 10 _ _ h.3.1 h.3.2 refl
event_back (event.Reply node client bytes) rest h = number_back node 32 _ _ h.0 refl ∙ number_back client 32 _ _ h.1 refl ∙ hex_back bytes 10 _ _ h.2 refl
event_back (event.Closed node client) rest h = number_back node 32 _ _ h.0 refl ∙ number_back client 10 _ _ h.1 refl
event_back (event.Asked stream node vb ask high log answer) rest h =
    stream_back stream 32 _ _ h.0 refl ∙ place_back node vb 32 _ _ h.1 h.2 refl ∙ ask_back ask 32 _ _ h.3 refl ∙ asked_back high log answer 10 _ _ h.4 h.5 h.6 refl
event_back (event.Marked stream start end flags) rest h =
    stream_back stream 32 _ _ h.0 refl ∙ number_back start 32 _ _ h.1 refl ∙ number_back end 32 _ _ h.2 refl ∙ number_back flags 10 _ _ h.3 refl
event_back (event.Item stream seq act key) rest h =
    stream_back stream 32 _ _ h.0 refl ∙ number_back seq 32 _ _ h.1 refl ∙ sent_back act 32 _ _ refl ∙ hex_back key 10 _ _ h.2 refl
event_back (event.Finished stream reason) rest h = stream_back stream 32 _ _ h.0 refl ∙ number_back reason 10 _ _ h.1 refl
event_back (event.Stated stream role) rest h = stream_back stream 32 _ _ h refl ∙ role_back role 10 _ _ refl
event_back (event.Adopted node vb log) rest h = place_back node vb 32 _ _ h.0 h.1 refl ∙ log_back log 10 _ _ h.2 refl
event_back (event.Ranged node vb ss se) rest h = place_back node vb 32 _ _ h.0 h.1 refl ∙ number_back ss 32 _ _ h.2 refl ∙ number_back se 10 _ _ h.3 refl
event_back (event.Got node vb stream change) rest h =
    place_back node vb 32 _ _ h.0 h.1 refl ∙ stream_back stream 32 _ _ h.2 refl ∙ number_back change.seq 32 _ _ h.3.0 refl ∙ act_back change.key change.act 10 _ _ h.3.1 h.3.2 refl
event_back (event.Rolled node vb named to) rest h = place_back node vb 32 _ _ h.0 h.1 refl ∙ number_back named 32 _ _ h.2 refl ∙ number_back to 10 _ _ h.3 refl
event_back (event.Acknowledged stream node vb seq saved) rest h =
    stream_back stream 32 _ _ h.0 refl ∙ place_back node vb 32 _ _ h.1 h.2 refl ∙ number_back seq 32 _ _ h.3 refl ∙ number_back saved 10 _ _ h.4 refl
event_back (event.Counted stream node vb member seq) rest h =
    stream_back stream 32 _ _ h.0 refl ∙ place_back node vb 32 _ _ h.1 h.2 refl ∙ number_back member 32 _ _ h.3 refl ∙ number_back seq 10 _ _ h.4 refl
event_back (event.Ended link reason) rest h = link_back link 32 _ _ h refl ∙ reason_back reason 10 _ _ refl
event_back (event.Batch node vb ss se at count) rest h =
    place_back node vb 32 _ _ h.0 h.1 refl ∙ number_back ss 32 _ _ h.2 refl ∙ number_back se 32 _ _ h.3 refl ∙ number_back at 32 _ _ h.4 refl ∙ number_back count 10 _ _ h.5 refl
event_back (event.Stat node vb windows items cursors saved high) rest h =
    place_back node vb 32 _ _ h.0 h.1 refl ∙ number_back windows 32 _ _ h.2 refl ∙ number_back items 32 _ _ h.3 refl ∙ number_back cursors 32 _ _ h.4 refl ∙ number_back saved 32 _ _ h.5 refl ∙ number_back high 10 _ _ h.6 refl
event_back (event.CallFailed node) rest h = number_back node 10 _ _ h refl
event_back (event.NodeStopped node) rest h = number_back node 10 _ _ h refl
event_back (event.Shown node vb role uuid at ss se docs preps) rest h =
    place_back node vb 32 _ _ h.0 h.1 refl ∙ role_back role 32 _ _ refl ∙ number_back uuid 32 _ _ h.2 refl ∙ extent_back at ss se docs preps 10 _ _ h.3 h.4 h.5 h.6 h.7 refl
event_back (event.Logged node vb log) rest h = place_back node vb 32 _ _ h.0 h.1 refl ∙ log_back log 10 _ _ h.2 refl
event_back (event.Document key doc) rest h = hex_back key 32 _ _ h.0 refl ∙ doc_back doc 10 _ _ h.1 refl
event_back (event.Prepared key seq level) rest h = hex_back key 32 _ _ h.0 refl ∙ number_back seq 32 _ _ h.1 refl ∙ level_back level 10 _ _ refl

-- ---- an item, read back

answer_back : (a : Answer) (rest : List ℕ) → IsAnswerRanged a → item_at (answer_text a ++ 10 ∷ rest) ≡ Some (Said a, rest)
answer_back answer.Ok rest h = refl
answer_back (answer.Number number) rest h =
    ap (λ mark. if mark == 10 then reading number_of (decimal number ++ 10 ∷ rest) (λ number text. Some (Said (answer.Number number), text))
    else reading number_of (decimal number ++ 10 ∷ rest) (λ frames text. reading why_of text (λ why text. Some (Said (answer.Pulled frames why), text))))
    (found_at ends (decimal number) 10 rest (decimal_clean ends digit_no_end number h) refl)
    ∙ number_back number 10 rest (λ number text. Some (Said (answer.Number number), text)) h refl
answer_back (answer.Pulled frames why) rest h =
    let more = why_text why ++ 10 ∷ rest in
    let pulled : ℕ → List ℕ → Reads = λ frames text. reading why_of text (λ why text. Some (Said (answer.Pulled frames why), text)) in
    ap item_at (spaced_in_row (codes "ok" ∷ decimal frames ∷ why_text why ∷ []) 10 rest)
    ∙ ap (λ mark. if mark == 10 then reading number_of (decimal frames ++ 32 ∷ more) (λ number text. Some (Said (answer.Number number), text))
    else reading number_of (decimal frames ++ 32 ∷ more) pulled)
    (found_at ends (decimal frames) 32 more (decimal_clean ends digit_no_end frames h) refl)
    ∙ number_back frames 32 more pulled h refl
    ∙ why_back why 10 rest (λ why text. Some (Said (answer.Pulled frames why), text)) refl
answer_back (answer.No cause) rest h = cause_back cause 10 rest (λ cause text. Some (Said (answer.No cause), text)) refl

head_back : (number : ℕ) (rest : List ℕ) → IsWide number → item_at ((codes "#" ++ decimal number) ++ 10 ∷ rest) ≡ Some (Head number, rest)
head_back number rest h =
    read_word link_of (codes "#" ++ decimal number) number 10 rest (λ number text. Some (Head number, text)) (decimal_clean ends digit_no_end number h) refl (number_of-decimal number h)

item_back : (i : Item) (rest : List ℕ) → IsItemRanged i → item_at (item_text i ++ rest) ≡ Some (i, rest)
unfolding event_text
item_back (Head number) rest h = ap item_at (append_assoc (codes "#" ++ decimal number) (10 ∷ []) rest) ∙ head_back number rest h
item_back (Told e) rest h =
    ap item_at (append_assoc (event_text e) (10 ∷ []) rest)
    ∙ ap item_at (spaced_in_row (event_words e) 10 rest)
    ∙ event_back e rest h
item_back (Said a) rest h = ap item_at (append_assoc (answer_text a) (10 ∷ []) rest) ∙ answer_back a rest h

-- ---- two texts

item_tells : (i j : Item) (rest more : List ℕ) → IsItemRanged i → IsItemRanged j → item_text i ++ rest ≡ item_text j ++ more → (i ≡ j) × (rest ≡ more)
item_tells i j rest more h k e =
    let same : Some (i, rest) ≡ Some (j, more) = sym (item_back i rest h) ∙ ap item_at e ∙ item_back j more k in
    let read : Item × List ℕ = (i, rest) in
    let other : Item × List ℕ = (j, more) in
    let pair : read ≡ other = cc same in
    (ap (λ p. p.0) pair, ap (λ p. p.1) pair)

some_text : (i : Item) (rest : List ℕ) → IsItemRanged i → item_text i ++ rest ≡ [] → ⊥
some_text i rest h e = let none : None ≡ Some (i, rest) = ap item_at (sym e) ∙ item_back i rest h in absurd (cc none)

same_event : (e f : Event) → Told e ≡ Told f → e ≡ f
same_event e f h = cc h

same_answer : (a b : Answer) → Said a ≡ Said b → a ≡ b
same_answer a b h = cc h

same_number : (n m : ℕ) → Head n ≡ Head m → n ≡ m
same_number n m h = cc h

abbrev events_text : List Event → List ℕ
events_text events = flat_map (λ event. ended (event_text event)) events

event_in_front : (e : Event) (events : List Event) (rest : List ℕ) → events_text (e ∷ events) ++ rest ≡ item_text (Told e) ++ (events_text events ++ rest)
event_in_front e events rest = append_assoc (item_text (Told e)) (events_text events) rest

events_tell : (events others : List Event) (a b : Answer) (rest more : List ℕ) → All IsEventRanged events → All IsEventRanged others → IsAnswerRanged a → IsAnswerRanged b
    → events_text events ++ (item_text (Said a) ++ rest) ≡ events_text others ++ (item_text (Said b) ++ more) → (events ≡ others) × (a ≡ b) × (rest ≡ more)
events_tell [] [] a b rest more h k ha hb e =
    let parts = item_tells (Said a) (Said b) rest more ha hb e in (refl, same_answer a b parts.0, parts.1)
events_tell [] (f ∷ others) a b rest more h k ha hb e =
    let parts = item_tells (Said a) (Told f) rest (events_text others ++ (item_text (Said b) ++ more)) ha (All-head IsEventRanged f others k) (e ∙ event_in_front f others (item_text (Said b) ++ more)) in
    absurd (cc parts.0)
events_tell (x ∷ events) [] a b rest more h k ha hb e =
    let parts = item_tells (Told x) (Said b) (events_text events ++ (item_text (Said a) ++ rest)) more (All-head IsEventRanged x events h) hb (sym (event_in_front x events (item_text (Said a) ++ rest)) ∙ e) in
    absurd (cc parts.0)
events_tell (x ∷ events) (f ∷ others) a b rest more h k ha hb e =
    let behind = item_text (Said a) ++ rest in
    let beyond = item_text (Said b) ++ more in
    let parts = item_tells (Told x) (Told f) (events_text events ++ behind) (events_text others ++ beyond) (All-head IsEventRanged x events h) (All-head IsEventRanged f others k) (sym (event_in_front x events behind) ∙ e ∙ event_in_front f others beyond) in
    let rests = events_tell events others a b rest more (All-tail IsEventRanged x events h) (All-tail IsEventRanged f others k) ha hb parts.1 in
    let same = same_event x f parts.0 in
    (λ n. same n ∷ rests.0 n, rests.1, rests.2)

group_in_front : (g : Group) (rest : List ℕ) → group_text g ++ rest ≡ item_text (Head g.line) ++ (events_text g.events ++ (item_text (Said g.answer) ++ rest))
unfolding group_text
group_in_front g rest =
    append_assoc (item_text (Head g.line) ++ events_text g.events) (item_text (Said g.answer)) rest
    ∙ append_assoc (item_text (Head g.line)) (events_text g.events) (item_text (Said g.answer) ++ rest)

pub groups_tell : (groups others : List Group) → All IsGroupRanged groups → All IsGroupRanged others → print_of groups ≡ print_of others → groups ≡ others
groups_tell [] [] h k e = refl
groups_tell [] (g ∷ others) h k e =
    absurd (some_text (Head g.line) _ (All-head IsGroupRanged g others k).0 (sym (group_in_front g (print_of others)) ∙ sym e))
groups_tell (g ∷ groups) [] h k e =
    absurd (some_text (Head g.line) _ (All-head IsGroupRanged g groups h).0 (sym (group_in_front g (print_of groups)) ∙ e))
groups_tell (g ∷ groups) (o ∷ others) h k e =
    let inside = All-head IsGroupRanged g groups h in
    let within = All-head IsGroupRanged o others k in
    let head = item_tells (Head g.line) (Head o.line) (events_text g.events ++ (item_text (Said g.answer) ++ print_of groups)) (events_text o.events ++ (item_text (Said o.answer) ++ print_of others)) inside.0 within.0
    (sym (group_in_front g (print_of groups)) ∙ e ∙ group_in_front o (print_of others)) in
    let body = events_tell g.events o.events g.answer o.answer (print_of groups) (print_of others) inside.1 within.1 inside.2 within.2 head.1 in
    let number = same_number g.line o.line head.0 in
    let more = groups_tell groups others (All-tail IsGroupRanged g groups h) (All-tail IsGroupRanged o others k) body.2 in
    let same : g ≡ o = λ n. record { line = number n; events = body.0 n; answer = body.1 n } in
    λ n. same n ∷ more n
