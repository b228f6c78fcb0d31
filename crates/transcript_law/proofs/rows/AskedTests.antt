-- what lines tell that were asked for it, by tests that can be read off
use Rattle.std.specs.Prelude.{◌≡◌, ◌*◌, ◌∷◌, ◌==◌, ◌&&◌, ◌||◌, ◌⊎◌, if◌then◌else◌, length}
use Rattle.transcript_law.proofs.Words.{ℕ, Bool, true, false, List, [], frames_in_lines, refl, ap, ◌∙◌, inl, inr, not, and_parts, eqb-true, Answer, Cause, Event, Role, Verb, VbVerb, NodeVerb, ClientVerb}
use Rattle.transcript_law.proofs.verbs.Tellings.{Are}
use Rattle.transcript_law.specs.Asked.{AreAmong, AskedOfClient, AskedOfNode, AskedOfVb, IsLogLine, IsRefused, IsShowLine, IsStatLine, RisesOn, TellsAsAsked, TellsIfDone, ids_in, is_turn, turns_in}
use Rattle.transcript_law.specs.Standing.{IsStanding}
use Rattle.transcript_law.specs.Tellings.{are_all, is_of_image}
use Rattle.vb_events.specs.declared.event.Answer.TheVariants as answer
use Rattle.vb_events.specs.declared.event.Cause.TheVariants as cause

-- ---- the tests

-- it was refused where it stood
abbrev stands : Cause → Bool
stands cause.IdsShort = false
stands cause.Stopped = false
stands cause.Closed = false
stands cause.Disk = false
stands other = true

abbrev is_refused : List Event → Answer → Bool
is_refused [] (answer.No why) = stands why
is_refused other said = false

-- the one line of a role
abbrev pub is_one_turn : ℕ → ℕ → Role → List Event → Bool
is_one_turn n v Role.Replica (Event.Role m u Role.Replica ∷ []) = m == n && u == v
is_one_turn n v Role.Dead (Event.Role m u Role.Dead ∷ []) = m == n && u == v
is_one_turn n v role other = false

-- a branch and a role, in front of others
abbrev rises_first : ℕ → ℕ → ℕ → List Event → Bool
rises_first n v uuid (Event.Branch m u id parent fork high ∷ Event.Role k y Role.Active ∷ lines) = m == n && (u == v && (id == uuid && (k == n && (y == v && are_all (λ line. not (is_turn line)) lines))))
rises_first n v uuid other = false

abbrev pub is_stat : ℕ → ℕ → List Event → Answer → Bool
is_stat n v (Event.Stat m u windows items cursors saved high ∷ []) answer.Ok = m == n && u == v
is_stat n v [] (answer.No why) = true
is_stat n v other said = false

abbrev pub is_log : ℕ → ℕ → List Event → Answer → Bool
is_log n v (Event.Logged m u log ∷ []) answer.Ok = m == n && u == v
is_log n v [] (answer.No why) = true
is_log n v other said = false

abbrev pub is_show : ℕ → ℕ → List Event → Answer → Bool
is_show n v (Event.Shown m u role uuid at ss se docs preps ∷ image) answer.Ok = m == n && (u == v && are_all is_of_image image)
is_show n v [] (answer.No why) = true
is_show n v other said = false

abbrev are_among : List ℕ → List ℕ → Bool
are_among [] words = true
are_among (id ∷ ids) [] = false
are_among (id ∷ ids) (word ∷ words) = if id == word then are_among ids words else are_among (id ∷ ids) words

abbrev at_node : NodeVerb → List Event → Bool
at_node (NodeVerb.Start uuids) lines = are_among (ids_in lines) uuids
at_node other lines = true

abbrev at_vb : ℕ → ℕ → VbVerb → List Event → Answer → Bool
at_vb n v (VbVerb.MakeActive uuid) lines said = is_refused lines said || rises_first n v uuid lines
at_vb n v VbVerb.MakeReplica lines said = is_refused lines said || is_one_turn n v Role.Replica (turns_in lines)
at_vb n v (VbVerb.Promote uuid) lines said = is_refused lines said || rises_first n v uuid lines
at_vb n v VbVerb.Follow lines said = is_refused lines said || is_one_turn n v Role.Replica (turns_in lines)
at_vb n v VbVerb.Dead lines said = is_refused lines said || is_one_turn n v Role.Dead (turns_in lines)
at_vb n v VbVerb.Stat lines said = is_stat n v lines said
at_vb n v VbVerb.Log lines said = is_log n v lines said
at_vb n v VbVerb.Show lines said = is_show n v lines said
at_vb n v other lines said = true

abbrev at_client : ClientVerb → List Event → Bool
at_client (ClientVerb.Pull wanted) lines = length lines == 2 * frames_in_lines lines
at_client other lines = true

abbrev pub is_asked_so : Verb → List Event → Answer → Bool
is_asked_so (Verb.AtNode n what) lines said = at_node what lines
is_asked_so (Verb.AtVb n v what) lines said = at_vb n v what lines said
is_asked_so (Verb.AtClient n c what) lines said = at_client what lines
is_asked_so other lines said = true

-- ---- what follows from them

or_so : {A B : Type 0} (a b : Bool) → (a || b) ≡ true → (a ≡ true → A) → (b ≡ true → B) → A ⊎ B
or_so true b e left right = inl (left refl)
or_so false b e left right = inr (right e)

stands_so : (why : Cause) → stands why ≡ true → IsStanding why
stands_so cause.IdsShort e = cc
stands_so cause.Stopped e = cc
stands_so cause.Closed e = cc
stands_so cause.Disk e = cc
stands_so cause.UnknownNode e = tt
stands_so cause.NodeExists e = tt
stands_so cause.UnknownVb e = tt
stands_so cause.VbExists e = tt
stands_so cause.Limit e = tt
stands_so cause.UuidZero e = tt
stands_so cause.UuidUsed e = tt
stands_so cause.WrongRole e = tt
stands_so cause.ChainBad e = tt
stands_so cause.LinkOpen e = tt
stands_so cause.LinkClosed e = tt
stands_so cause.BatchOut e = tt
stands_so cause.NothingTaken e = tt
stands_so cause.NodeUp e = tt
stands_so cause.NodeDown e = tt

refused_so : (lines : List Event) (said : Answer) → is_refused lines said ≡ true → IsRefused lines said
refused_so [] (answer.No why) e = (why, refl, stands_so why e, refl)
refused_so [] answer.Ok e = cc
refused_so [] (answer.Number n) e = cc
refused_so [] (answer.Pulled n why) e = cc
refused_so (line ∷ lines) said e = cc

one_turn_so : (n v : ℕ) (role : Role) (lines : List Event) → is_one_turn n v role lines ≡ true → lines ≡ Event.Role n v role ∷ []
one_turn_so n v Role.Replica (Event.Role m u Role.Replica ∷ []) e = let p = and_parts (m == n) (u == v) e in λ i. Event.Role (eqb-true m n p.0 i) (eqb-true u v p.1 i) Role.Replica ∷ []
one_turn_so n v Role.Dead (Event.Role m u Role.Dead ∷ []) e = let p = and_parts (m == n) (u == v) e in λ i. Event.Role (eqb-true m n p.0 i) (eqb-true u v p.1 i) Role.Dead ∷ []
one_turn_so n v role other e = cc

calm_so : (lines : List Event) → Are (λ line. not (is_turn line)) lines → turns_in lines ≡ []
calm_so [] a = refl
calm_so (line ∷ lines) a = let p = and_parts (not (is_turn line)) _ a in by (is_turn line) p.0 (calm_so lines p.1)
  where
    by : (b : Bool) → not b ≡ true → turns_in lines ≡ [] → (if b then line ∷ turns_in lines else turns_in lines) ≡ []
    by true e rest = cc
    by false e rest = rest

rises_so : (n v uuid : ℕ) (lines : List Event) → rises_first n v uuid lines ≡ true → RisesOn n v uuid lines
rises_so n v uuid (Event.Branch m u id parent fork high ∷ Event.Role k y Role.Active ∷ lines) e =
    let p = and_parts (m == n) _ e in let q = and_parts (u == v) _ p.1 in let r = and_parts (id == uuid) _ q.1 in let s = and_parts (k == n) _ r.1 in let t = and_parts (y == v) _ s.1 in
    let same : Event.Branch m u id parent fork high ∷ Event.Role k y Role.Active ∷ lines ≡ Event.Branch n v uuid parent fork high ∷ Event.Role n v Role.Active ∷ lines =
    (λ i. Event.Branch (eqb-true m n p.0 i) (eqb-true u v q.0 i) (eqb-true id uuid r.0 i) parent fork high ∷ Event.Role (eqb-true k n s.0 i) (eqb-true y v t.0 i) Role.Active ∷ lines) in record {
      parent = parent;
      fork = fork;
      high = high;
      front = [];
      behind = lines;
      together = same;
      alone = ap turns_in same ∙ ap (λ ls. Event.Branch n v uuid parent fork high ∷ Event.Role n v Role.Active ∷ ls) (calm_so lines t.1);
    }
rises_so n v uuid other e = cc

stat_so : (n v : ℕ) (lines : List Event) (said : Answer) → is_stat n v lines said ≡ true → TellsIfDone (IsStatLine n v) lines said
stat_so n v (Event.Stat m u windows items cursors saved high ∷ []) answer.Ok e = let p = and_parts (m == n) (u == v) e in (windows, items, cursors, saved, high, λ i. Event.Stat (eqb-true m n p.0 i) (eqb-true u v p.1 i) windows items cursors saved high ∷ [])
stat_so n v [] (answer.No why) e = refl
stat_so n v other said e = cc

log_so : (n v : ℕ) (lines : List Event) (said : Answer) → is_log n v lines said ≡ true → TellsIfDone (IsLogLine n v) lines said
log_so n v (Event.Logged m u log ∷ []) answer.Ok e = let p = and_parts (m == n) (u == v) e in (log, λ i. Event.Logged (eqb-true m n p.0 i) (eqb-true u v p.1 i) log ∷ [])
log_so n v [] (answer.No why) e = refl
log_so n v other said e = cc

show_so : (n v : ℕ) (lines : List Event) (said : Answer) → is_show n v lines said ≡ true → TellsIfDone (IsShowLine n v) lines said
show_so n v (Event.Shown m u role uuid at ss se docs preps ∷ image) answer.Ok e =
    let p = and_parts (m == n) _ e in let q = and_parts (u == v) _ p.1 in
    (role, uuid, at, ss, se, docs, preps, image, (λ i. Event.Shown (eqb-true m n p.0 i) (eqb-true u v q.0 i) role uuid at ss se docs preps ∷ image), q.1)
show_so n v [] (answer.No why) e = refl
show_so n v other said e = cc

among_so : (ids words : List ℕ) → are_among ids words ≡ true → AreAmong ids words
among_so [] words e = tt
among_so (id ∷ ids) [] e = cc
among_so (id ∷ ids) (word ∷ words) e = by (id == word) refl e (λ f. among_so ids words f) (λ f. among_so (id ∷ ids) words f)
  where
    by : (b : Bool) → (id == word) ≡ b → (if b then are_among ids words else are_among (id ∷ ids) words) ≡ true → (are_among ids words ≡ true → AreAmong ids words) → (are_among (id ∷ ids) words ≡ true → AreAmong (id ∷ ids) words) → AreAmong (id ∷ ids) (word ∷ words)
    by true t f first later = inl (eqb-true id word t, first f)
    by false t f first later = inr (later f)

node_so : (what : NodeVerb) (lines : List Event) → at_node what lines ≡ true → AskedOfNode what lines
node_so (NodeVerb.Clock nanos) lines e = tt
node_so (NodeVerb.Stop k out) lines e = tt
node_so (NodeVerb.Fail k) lines e = tt
node_so (NodeVerb.Crash out) lines e = tt
node_so (NodeVerb.Start uuids) lines e = among_so (ids_in lines) uuids e

vb_so : (n v : ℕ) (what : VbVerb) (lines : List Event) (said : Answer) → at_vb n v what lines said ≡ true → AskedOfVb n v what lines said
vb_so n v (VbVerb.MakeActive uuid) lines said e = or_so (is_refused lines said) (rises_first n v uuid lines) e (refused_so lines said) (rises_so n v uuid lines)
vb_so n v VbVerb.MakeReplica lines said e = or_so (is_refused lines said) (is_one_turn n v Role.Replica (turns_in lines)) e (refused_so lines said) (one_turn_so n v Role.Replica (turns_in lines))
vb_so n v (VbVerb.Chain others) lines said e = tt
vb_so n v (VbVerb.Promote uuid) lines said e = or_so (is_refused lines said) (rises_first n v uuid lines) e (refused_so lines said) (rises_so n v uuid lines)
vb_so n v VbVerb.Follow lines said e = or_so (is_refused lines said) (is_one_turn n v Role.Replica (turns_in lines)) e (refused_so lines said) (one_turn_so n v Role.Replica (turns_in lines))
vb_so n v VbVerb.Dead lines said e = or_so (is_refused lines said) (is_one_turn n v Role.Dead (turns_in lines)) e (refused_so lines said) (one_turn_so n v Role.Dead (turns_in lines))
vb_so n v VbVerb.Tick lines said e = tt
vb_so n v VbVerb.Trim lines said e = tt
vb_so n v VbVerb.Seal lines said e = tt
vb_so n v VbVerb.Take lines said e = tt
vb_so n v VbVerb.Save lines said e = tt
vb_so n v VbVerb.Done lines said e = tt
vb_so n v VbVerb.Stat lines said e = stat_so n v lines said e
vb_so n v VbVerb.Log lines said e = log_so n v lines said e
vb_so n v VbVerb.Show lines said e = show_so n v lines said e

client_so : (what : ClientVerb) (lines : List Event) → at_client what lines ≡ true → AskedOfClient what lines
client_so ClientVerb.Open lines e = tt
client_so (ClientVerb.Bytes bytes) lines e = tt
client_so (ClientVerb.Pull wanted) lines e = eqb-true (length lines) (2 * frames_in_lines lines) e
client_so ClientVerb.Hang lines e = tt

pub asked_so : (line : Verb) (lines : List Event) (said : Answer) → is_asked_so line lines said ≡ true → TellsAsAsked line lines said
asked_so (Verb.Node n) lines said e = tt
asked_so (Verb.Link l m n v buffer takeover) lines said e = tt
asked_so (Verb.AtNode n what) lines said e = node_so what lines e
asked_so (Verb.AtVb n v what) lines said e = vb_so n v what lines said e
asked_so (Verb.AtClient n c what) lines said e = client_so what lines e
asked_so (Verb.AtLink l what) lines said e = tt

-- a line that was refused where it stood was asked for nothing more
refused_node : (what : NodeVerb) → AskedOfNode what []
refused_node (NodeVerb.Clock nanos) = tt
refused_node (NodeVerb.Stop k out) = tt
refused_node (NodeVerb.Fail k) = tt
refused_node (NodeVerb.Crash out) = tt
refused_node (NodeVerb.Start uuids) = tt

refused_vb : (n v : ℕ) (what : VbVerb) (why : Cause) → IsStanding why → AskedOfVb n v what [] (answer.No why)
refused_vb n v (VbVerb.MakeActive uuid) why s = inl (why, refl, s, refl)
refused_vb n v VbVerb.MakeReplica why s = inl (why, refl, s, refl)
refused_vb n v (VbVerb.Chain others) why s = tt
refused_vb n v (VbVerb.Promote uuid) why s = inl (why, refl, s, refl)
refused_vb n v VbVerb.Follow why s = inl (why, refl, s, refl)
refused_vb n v VbVerb.Dead why s = inl (why, refl, s, refl)
refused_vb n v VbVerb.Tick why s = tt
refused_vb n v VbVerb.Trim why s = tt
refused_vb n v VbVerb.Seal why s = tt
refused_vb n v VbVerb.Take why s = tt
refused_vb n v VbVerb.Save why s = tt
refused_vb n v VbVerb.Done why s = tt
refused_vb n v VbVerb.Stat why s = refl
refused_vb n v VbVerb.Log why s = refl
refused_vb n v VbVerb.Show why s = refl

refused_client : (what : ClientVerb) → AskedOfClient what []
refused_client ClientVerb.Open = tt
refused_client (ClientVerb.Bytes bytes) = tt
refused_client (ClientVerb.Pull wanted) = refl
refused_client ClientVerb.Hang = tt

pub refused_asked : (line : Verb) (why : Cause) → IsStanding why → TellsAsAsked line [] (answer.No why)
refused_asked (Verb.Node n) why s = tt
refused_asked (Verb.Link l m n v buffer takeover) why s = tt
refused_asked (Verb.AtNode n what) why s = refused_node what
refused_asked (Verb.AtVb n v what) why s = refused_vb n v what why s
refused_asked (Verb.AtClient n c what) why s = refused_client what
refused_asked (Verb.AtLink l what) why s = tt
