-- role, log and snapshot of each vBucket are known behind each line
use Rattle.std.specs.Prelude.{◌≡◌, ◌∷◌}
use Rattle.transcript_law.proofs.Words.{ℕ, Bool, true, false, List, [], refl, Option, Some, None, option_map, All-head, All-tail, ScriptLine, ScriptFits, VerbFits, Plain, PlainWorld, empty_world, with_branches, verb_step, world_step, groups_from, Event, Role, Chronicle, empty_chronicle, after_line, with_at, with_entry, kept_to}
use Rattle.transcript_law.proofs.{invariant.Agreement.{Agrees, AgreesAt, AgreesIn, idle, vb_of}, invariant.Ranged.{IsRanged, start_ranged}, Runs.{Along, along, along_start}, verbs.Rows.{Row}, invariant.Seats.{seat}, invariant.Tables.{pick}}
use Rattle.cluster_model.specs.Clusters.{Cluster}
use Rattle.transcript_law.specs.{Chronicles.{after_group, at_line, snap_in_role}, Lawfulness.{AllKnown}, LinesTold.{roles_from}, Prefixes.{known_after, known_of, world_after, world_of}}
use Rattle.vb_types.specs.declared.stream.AskAnswer.{AskAnswer}
use Rattle.vb_types.specs.declared.stream.AskAnswer.TheVariants as ask_answer
use Rattle.vb_events.specs.declared.event.StreamName.{StreamName}
use Rattle.vb_events.specs.declared.event.StreamName.TheVariants as name
use Rattle.vb_types.specs.declared.role.Role.TheVariants as role
use Rattle.transcript_law.specs.LawfulAnswers.{IsStill}
use Rattle.transcript_law.proofs.invariant.{Begun.{ServesOpen}, ClientWorlds.{ConnsAre, start_conns}, Clients.{line_heard}}

-- it is known, if it is something
abbrev IsSome : {A : Type 0} → Option A → Type 0
IsSome {A = A} o = (x : A) × (o ≡ Some x)

some_mapped : {A B : Type 0} (f : A → B) (o : Option A) → IsSome o → IsSome (option_map f o)
some_mapped f o (x, e) = (f x, (λ i. option_map f (e i)))

-- a table with one more place that is known
more : {A : Type 0} (table : ℕ → ℕ → Option A) (n v : ℕ) (x : Option A) → IsSome x → ((m q : ℕ) → IsSome (table m q)) → (m q : ℕ) → IsSome (with_at table n v x m q)
more table n v x is others m q = pick table n v x IsSome m q (λ s t. is) (λ o. others m q)

-- all agree, and so all is known
agreed : (w : PlainWorld) (r : Chronicle) (c : Cluster) → AgreesIn idle w r c → AllKnown r
agreed w r c a = record { role = λ n v. roles n v (vb_of w n v) refl (a.vbs n v); log = λ n v. logs n v (vb_of w n v) (a.vbs n v); snap = λ n v. snaps n v (vb_of w n v) (a.vbs n v) }
  where
    roles : (n v : ℕ) (o : Option Plain) → vb_of w n v ≡ o → AgreesAt r n v (c.nodes (seat n v)) o → IsSome (r.role_at n v)
    roles n v None e x = (_, (a.aways n v e).role)
    roles n v (Some vb) e x = (_, x.role)

    logs : (n v : ℕ) (o : Option Plain) → AgreesAt r n v (c.nodes (seat n v)) o → IsSome (r.log_at n v)
    logs n v None x = (_, x.told.log)
    logs n v (Some vb) x = (_, x.log)

    snaps : (n v : ℕ) (o : Option Plain) → AgreesAt r n v (c.nodes (seat n v)) o → IsSome (r.snap_at n v)
    snaps n v None x = (_, x.told.snap)
    snaps n v (Some vb) x = (_, x.snap)

-- after more lines all agree
pub agrees_from : (w : PlainWorld) (r : Chronicle) (script : List ScriptLine) → ScriptFits script → Along w r → Agrees (world_after w script) (known_after r script (groups_from w script))
unfolding world_step
agrees_from w r [] fits x = x.agrees
agrees_from w r (line ∷ lines) fits x =
    let fit = All-head (λ (y : ScriptLine). VerbFits y.verb) line lines fits in let outcome = verb_step w line.line line.verb in
    agrees_from (with_branches outcome.1.events outcome.0) (after_group (at_line r line.line) line.verb outcome.1.events outcome.1.answer) lines (All-tail (λ (y : ScriptLine). VerbFits y.verb) line lines fits) (along w r line fit x)

-- behind a script
pub script_known : (script : List ScriptLine) → ScriptFits script → AllKnown (known_of script)
script_known script fits = let x = agrees_from empty_world empty_chronicle script fits along_start in agreed (world_of script) (known_of script) x.0 x.1

-- and behind a line, where it was before it
snap_known : (new : Role) (told : Chronicle) (n v : ℕ) → AllKnown told → IsSome (snap_in_role new (told.held n v) (told.snap_at n v))
snap_known role.Active told n v k = (_, refl)
snap_known role.Replica told n v k = k.snap n v
snap_known role.Pending told n v k = k.snap n v
snap_known role.Dead told n v k = k.snap n v

pub line_known : (told : Chronicle) (line : Event) → AllKnown told → AllKnown (after_line told line)
line_known told (Event.Branch n v uuid parent fork high) k = record {
  role = roles (told.arm_at n).down;
  log = more told.log_at n v (option_map (with_entry uuid fork) (told.log_at n v)) (some_mapped (with_entry uuid fork) (told.log_at n v) (k.log n v)) k.log;
  snap = more told.snap_at n v (Some (high, high)) (_, refl) k.snap;
}
  where
    roles : (b : Bool) → (m q : ℕ) → IsSome (roles_from b told.role_at n v m q)
    roles true = more told.role_at n v (Some (Some role.Active)) (_, refl) k.role
    roles false = k.role
line_known told (Event.Role n v new) k = record { role = more told.role_at n v (Some (Some new)) (_, refl) k.role; log = k.log; snap = more told.snap_at n v (snap_in_role new (told.held n v) (told.snap_at n v)) (snap_known new told n v k) k.snap }
line_known told (Event.Changed n v uuid change) k = record { role = k.role; log = k.log; snap = more told.snap_at n v (Some (change.seq, change.seq)) (_, refl) k.snap }
line_known told (Event.Adopted n v log) k = record { role = k.role; log = more told.log_at n v (Some log) (_, refl) k.log; snap = k.snap }
line_known told (Event.Ranged n v ss se) k = record { role = k.role; log = k.log; snap = more told.snap_at n v (Some (ss, se)) (_, refl) k.snap }
line_known told (Event.Rolled n v named to) k = record {
  role = k.role;
  log = more told.log_at n v (option_map (kept_to to) (told.log_at n v)) (some_mapped (kept_to to) (told.log_at n v) (k.log n v)) k.log;
  snap = more told.snap_at n v (Some (to, to)) (_, refl) k.snap;
}
line_known told (Event.Asked stream n v ask high log said) k = asked stream said
  where
    asked : (stream : StreamName) (said : AskAnswer) → AllKnown (after_line told (Event.Asked stream n v ask high log said))
    asked (name.Link l) ask_answer.Go = record { role = k.role; log = k.log; snap = k.snap }
    asked (name.Link l) (ask_answer.Roll to) = record { role = k.role; log = k.log; snap = k.snap }
    asked (name.Link l) (ask_answer.Refuse code) = k
    asked (name.Client m c) said = record { role = k.role; log = k.log; snap = k.snap }
line_known told (Event.Marked (name.Client m c) start end flags) k = record { role = k.role; log = k.log; snap = k.snap }
line_known told (Event.Item (name.Client m c) seq act key) k = record { role = k.role; log = k.log; snap = k.snap }
line_known told (Event.Finished (name.Client m c) reason) k = record { role = k.role; log = k.log; snap = k.snap }
line_known told (Event.Stated (name.Link l) role) k = record { role = k.role; log = k.log; snap = k.snap }
line_known told (Event.Stated (name.Client m c) role) k = k
line_known told other k = record { role = k.role; log = k.log; snap = k.snap }
