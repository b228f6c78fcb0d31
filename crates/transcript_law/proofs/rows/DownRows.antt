-- lines for a node that is down, and over a link that ended with its node, judged by hand
use Rattle.std.specs.Prelude.{◌≡◌, ◌<◌, ◌∷◌, ◌++◌}
use Rattle.transcript_law.proofs.Words.{ℕ, Bool, true, false, List, [], refl, inl, ⊎_elim, arith, Event, Role, LawfulFrom, LawfulGroups, granted_inside}
use Rattle.transcript_law.proofs.{rows.CrashRows.{first, lawful_from_made, no_role, cut_off, one_closed}, rows.Followers.{begun, next_covers}, rows.Ended.{one_cut}, rows.Groups.{Told, whole}, rows.Silent.{shut_heard}}
use Rattle.transcript_law.specs.Crashes.{LawfulAfter, Said, ok, branch_line, restarted}
use Rattle.transcript_law.specs.Downs.{refused, crash_and, crash_and_groups, start_and, start_and_groups, begun_and_crashed, crash_under_link, crash_under_link_groups}
use Rattle.transcript_law.specs.Followers.{next_change, next_item_line}
use Rattle.script_text.specs.declared.verb.Verb.TheVariants as verb
use Rattle.script_text.specs.declared.verb.VbVerb.TheVariants as vb_verb
use Rattle.script_text.specs.declared.verb.NodeVerb.TheVariants as node_verb
use Rattle.script_text.specs.declared.verb.LinkVerb.TheVariants as link_verb
use Rattle.script_text.specs.declared.verb.ClientVerb.TheVariants as client_verb
use Rattle.vb_disk.specs.declared.made.Outcome.TheVariants.{Old}
use Rattle.vb_events.specs.declared.event.Answer.TheVariants as answer
use Rattle.vb_events.specs.declared.event.Cause.TheVariants as cause

-- a node that is down

pub shown_down : LawfulAfter (crash_and (verb.AtVb 0 0 vb_verb.Show)) (crash_and_groups (refused cause.NodeDown))
shown_down = lawful_from_made (crash_and (verb.AtVb 0 0 vb_verb.Show)) (crash_and_groups (refused cause.NodeDown)) refl ((((refl, cut_off), tt), one_closed, refl), ((tt, (refl, inl refl), refl), tt))

pub shows : (lines : List Event) → LawfulAfter (crash_and (verb.AtVb 0 0 vb_verb.Show)) (crash_and_groups (ok lines)) → ⊥
shows lines l = ⊎_elim (λ e. cc) (λ x. x) l.1.1.1.1.1.0.1.1

pub unknown : LawfulAfter (crash_and (verb.AtVb 0 0 vb_verb.Show)) (crash_and_groups (refused cause.UnknownVb)) → ⊥
unknown l = ⊎_elim (λ e. cc) (λ x. x) l.1.1.1.1.1.0.1.1

pub tells : (line : Event) (lines : List Event) → LawfulAfter (crash_and (verb.AtVb 0 0 vb_verb.Show)) (crash_and_groups (line ∷ lines, answer.No cause.NodeDown)) → ⊥
tells line lines l = let e : line ∷ lines ≡ [] = l.1.1.1.1.1.0.1.0 in cc

pub promotes : (lines : List Event) → LawfulAfter (crash_and (verb.AtVb 0 0 (vb_verb.Promote 7))) (crash_and_groups (ok lines)) → ⊥
promotes lines l = ⊎_elim (λ e. cc) (λ x. x) l.1.1.1.1.1.0.1.1

pub makes : (lines : List Event) → LawfulAfter (crash_and (verb.AtVb 0 1 vb_verb.MakeReplica)) (crash_and_groups (ok lines)) → ⊥
makes lines l = ⊎_elim (λ e. cc) (λ x. x) l.1.1.1.1.1.0.1.1

pub opens : (lines : List Event) → LawfulAfter (crash_and (verb.AtClient 0 1 client_verb.Open)) (crash_and_groups (ok lines)) → ⊥
opens lines l = ⊎_elim (λ e. cc) (λ x. x) l.1.1.1.1.1.0.1.1

pub dials : (buffer : ℕ) (takeover : Bool) (lines : List Event) → LawfulAfter (crash_and (verb.Link 1 0 0 0 buffer takeover)) (crash_and_groups (ok lines)) → ⊥
dials buffer takeover lines l = ⊎_elim (λ e. cc) (λ x. ⊎_elim (λ e. cc) (λ y. y) x) l.1.1.1.1.1.0.1.1

pub crashes_twice : (lines : List Event) → LawfulAfter (crash_and (verb.AtNode 0 (node_verb.Crash Old))) (crash_and_groups (ok lines)) → ⊥
crashes_twice lines l = ⊎_elim (λ e. cc) (λ x. x) l.1.1.1.1.1.0.1.1

pub made_twice : (lines : List Event) → LawfulAfter (crash_and (verb.Node 0)) (crash_and_groups (ok lines)) → ⊥
made_twice lines l = ⊎_elim (λ e. cc) (λ x. x) l.1.1.1.1.1.0.1.1

-- one that runs

pub started_up : LawfulAfter (verb.AtNode 0 (node_verb.Start (7 ∷ [])) ∷ []) (refused cause.NodeUp ∷ [])
started_up = lawful_from_made (verb.AtNode 0 (node_verb.Start (7 ∷ [])) ∷ []) (refused cause.NodeUp ∷ []) refl ((tt, (refl, inl refl), refl), tt)

pub starts_up : (lines : List Event) → LawfulAfter (verb.AtNode 0 (node_verb.Start (7 ∷ [])) ∷ []) (ok lines ∷ []) → ⊥
starts_up lines l = ⊎_elim (λ e. cc) (λ x. ⊎_elim (λ e. cc) (λ y. y) x) l.1.1.1.1.0.1.1

pub starts_twice : (at : ℕ) (lines : List Event) → LawfulAfter (start_and (verb.AtNode 0 (node_verb.Start (9 ∷ [])))) (start_and_groups (restarted at) (ok lines)) → ⊥
starts_twice at lines l = ⊎_elim (λ e. cc) (λ x. ⊎_elim (λ e. cc) (λ y. y) x) l.1.1.1.1.1.1.0.1.1

pub crashes_again : LawfulAfter (start_and (verb.AtNode 0 (node_verb.Crash Old))) (start_and_groups (restarted 0) (ok []))
crashes_again = lawful_from_made (start_and (verb.AtNode 0 (node_verb.Crash Old))) (start_and_groups (restarted 0) (ok [])) refl
    ((((refl, cut_off), tt), one_closed, refl), (((record { new = (λ e. omega arith, tt); newest = refl; last = refl; leaves = refl }, tt), ((λ v e. first v (branch_line 0 0 ∷ []) (λ f. no_role Role.Active (rw f at e)) (inl (refl, refl))), tt), refl), ((tt, one_closed, refl), tt)))

-- one that is down is not refused as one that runs, nor as one that is down; and where it stays down for want of ids it tells of nothing
pub starts_down : LawfulAfter (crash_and (verb.AtNode 0 (node_verb.Start (7 ∷ [])))) (crash_and_groups (refused cause.NodeUp)) → ⊥
starts_down l = let e : true ≡ false = l.1.1.1.1.1.0.1.1 in cc

pub stays_down : LawfulAfter (crash_and (verb.AtNode 0 (node_verb.Start (7 ∷ [])))) (crash_and_groups (refused cause.NodeDown)) → ⊥
stays_down l = l.1.1.1.1.1.0.1

pub short_tells : (line : Event) (lines : List Event) → LawfulAfter (crash_and (verb.AtNode 0 (node_verb.Start []))) (crash_and_groups (line ∷ lines, answer.No cause.IdsShort)) → ⊥
short_tells line lines l = let e : line ∷ lines ≡ [] = l.1.1.1.1.1.0.1.0 in cc

-- nor does it for want of ids where there are enough, or for the id 0 where that is none of them
pub enough : LawfulAfter (crash_and (verb.AtNode 0 (node_verb.Start (7 ∷ [])))) (crash_and_groups (refused cause.IdsShort)) → ⊥
enough l = let e : ◌<◌ 1 1 = l.1.1.1.1.1.0.1.1 in omega arith

pub nonzero : LawfulAfter (crash_and (verb.AtNode 0 (node_verb.Start (7 ∷ [])))) (crash_and_groups (refused cause.UuidZero)) → ⊥
nonzero l = let e = l.1.1.1.1.1.0.1.1 in cc

-- a start with too few ids leaves it down
pub short_again : LawfulAfter (verb.AtNode 0 (node_verb.Crash Old) ∷ verb.AtNode 0 (node_verb.Start []) ∷ verb.AtNode 0 (node_verb.Crash Old) ∷ []) (crash_and_groups (refused cause.IdsShort) ++ ok [] ∷ []) → ⊥
short_again l = ⊎_elim (λ e. cc) (λ x. x) l.1.1.1.1.1.1.0.1.1

-- a link ends with a node at one of its ends, and no other does

pub next_item : LawfulFrom (begun_and_crashed 2) (next_item_line ∷ [])
next_item = ((_, begun 1 2 [], (0, refl, refl), refl, refl, ([], record { whole = next_change ∷ []; covers = next_covers; front = refl }, λ e. refl), λ e. cc), tt)

pub of_producer : LawfulFrom (begun_and_crashed 0) (next_item_line ∷ []) → ⊥
of_producer l = let (g, b, (v, is, has), opens, last, next, source) = l.0 in cc

pub of_consumer : LawfulFrom (begun_and_crashed 1) (next_item_line ∷ []) → ⊥
of_consumer l = let (g, b, (v, is, has), opens, last, next, source) = l.0 in cc

pub closed : LawfulGroups (granted_inside 2) (crash_under_link 0 (verb.AtLink 1 (link_verb.Pump 9))) (crash_under_link_groups (refused cause.LinkClosed))
closed = whole (granted_inside 2) (crash_under_link 0 (verb.AtLink 1 (link_verb.Pump 9))) (crash_under_link_groups (refused cause.LinkClosed)) refl ((((_, refl), tt), (λ c. refl), refl), ((tt, (refl, inl refl), refl), tt))
    (shut_heard (granted_inside 2) (crash_under_link 0 (verb.AtLink 1 (link_verb.Pump 9))) (crash_under_link_groups (refused cause.LinkClosed)) (λ n c. refl) refl) (Told ((one_cut 0, tt), ((tt, tt), tt)))

pub pumps : (next : Said) → (next.1 ≡ answer.No cause.LinkClosed → ⊥) → LawfulGroups (granted_inside 2) (crash_under_link 0 (verb.AtLink 1 (link_verb.Pump 9))) (crash_under_link_groups next) → ⊥
pumps next other l = ⊎_elim other (λ x. x) l.1.0.1.1

pub takes : (next : Said) → (next.1 ≡ answer.No cause.LinkClosed → ⊥) → LawfulGroups (granted_inside 2) (crash_under_link 1 (verb.AtLink 1 (link_verb.Down 9))) (crash_under_link_groups next) → ⊥
takes next other l = ⊎_elim other (λ x. x) l.1.0.1.1
