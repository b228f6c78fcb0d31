-- links that end and are not told over, and lines over links that go on, judged by hand
use Rattle.std.specs.Prelude.{◌≡◌, ◌∷◌, ◌++◌, ◌==◌, if◌then◌else◌}
use Rattle.transcript_law.proofs.Words.{ℕ, Bool, true, false, List, [], refl, sym, ◌∙◌, inl, inr, ⊎_elim, arith, Option, Some, None, Answer, Cause, Chronicle, Event, LinkVerb, NodeVerb, Role, Verb, VbVerb}
use Rattle.transcript_law.proofs.rows.{Ended.{all_quiet, one_unfed}, Groups.{AreLeft, AreParts, Ended, Quiet, Told, fired_all, in_line, in_place, whole, whole_left}, Silent.{all_shut, shut_heard}}
use Rattle.transcript_law.proofs.lines.Rises.{made_here}
use Rattle.transcript_law.specs.BoundRows.{LawfulHere, one_dialed}
use Rattle.transcript_law.specs.Crashes.{Said, groups_from_number, numbered, ok}
use Rattle.transcript_law.specs.EndRows.{IsCarried, IsNoDisk, NotAlone, dials, dials_elsewhere, over_one, rises, turns, turns_and_stops}
use Rattle.transcript_law.specs.LineAnswers.{IsOver}
use Rattle.transcript_law.specs.Ends.{AllEnded}
use Rattle.transcript_law.specs.LinesTold.{Dial, after_lines, is_dial_at, is_dial_for}
use Rattle.transcript_law.specs.TellingRows.{ends_at, stops_at}
use Rattle.vb_disk.specs.declared.made.Outcome.TheVariants.{Old}

-- one thing or the other
not_both : true ≡ false → ⊥
not_both e = cc

-- what is read of the link's dial, by whether it is the one
other_end : (l : ℕ) → is_dial_at 2 (one_dialed.dial_of l) ≡ false
other_end l = elim (l == 1) as (λ b. is_dial_at 2 (if b then Some (record { producer = 0; node = 1; vb = 0 }) else None) ≡ false) [ true ↦ refl | false ↦ refl ]

unfed : (l : ℕ) → is_dial_for 1 1 (one_dialed.dial_of l) ≡ false
unfed l = elim (l == 1) as (λ b. is_dial_for 1 1 (if b then Some (record { producer = 0; node = 1; vb = 0 }) else None) ≡ false) [ true ↦ refl | false ↦ refl ]

unfed_there : (l : ℕ) → is_dial_for 2 0 (one_dialed.dial_of l) ≡ false
unfed_there l = elim (l == 1) as (λ b. is_dial_for 2 0 (if b then Some (record { producer = 0; node = 1; vb = 0 }) else None) ≡ false) [ true ↦ refl | false ↦ refl ]

-- a line of which this is told
here : (line : Verb) (said : Said) → in_place one_dialed (numbered 1 (line ∷ [])) (groups_from_number 1 (said ∷ [])) ≡ true → AreParts one_dialed (numbered 1 (line ∷ [])) (groups_from_number 1 (said ∷ [])) → all_shut (numbered 1 (line ∷ [])) ≡ true → Ended one_dialed (numbered 1 (line ∷ [])) (groups_from_number 1 (said ∷ [])) → LawfulHere one_dialed line said
here line said o p silent e = whole one_dialed (numbered 1 (line ∷ [])) (groups_from_number 1 (said ∷ [])) o p (shut_heard one_dialed (numbered 1 (line ∷ [])) (groups_from_number 1 (said ∷ [])) (λ n c. refl) silent) e

-- ---- ends that are not told

pub crash_source : LawfulHere one_dialed (Verb.AtNode 0 (NodeVerb.Crash Old)) (ok []) → ⊥
crash_source l = not_both (l.0.11.0 1)

pub crash_follower : LawfulHere one_dialed (Verb.AtNode 1 (NodeVerb.Crash Old)) (ok []) → ⊥
crash_follower l = not_both (l.0.11.0 1)

pub crash_elsewhere : LawfulHere one_dialed (Verb.AtNode 2 (NodeVerb.Crash Old)) (ok [])
crash_elsewhere = here (Verb.AtNode 2 (NodeVerb.Crash Old)) (ok []) refl ((tt, (λ c. refl), refl), tt) refl (Told ((other_end, tt), tt))

pub stop : NotAlone (Verb.AtVb 1 0 VbVerb.Save) (stops_at 1 ∷ [])
stop said l = not_both (l.0.11.1.0 1)

pub stop_source : NotAlone (Verb.AtVb 0 0 VbVerb.Save) (stops_at 0 ∷ [])
stop_source said l = not_both (l.0.11.1.0 1)

pub down_stop : NotAlone (over_one (LinkVerb.Down 9)) (stops_at 1 ∷ [])
down_stop said l = not_both (l.0.11.1.0 1)

-- by that alone
pub stopped : AllEnded one_dialed (Verb.AtVb 1 1 VbVerb.Dead) (stops_at 1 ∷ []) (Answer.No Cause.Stopped) → ⊥
stopped l = not_both (l.1.0 1)

pub stopped_source : AllEnded one_dialed (Verb.AtVb 0 0 VbVerb.Dead) (stops_at 0 ∷ []) (Answer.No Cause.Stopped) → ⊥
stopped_source l = not_both (l.1.0 1)

pub stopped_behind : AllEnded one_dialed (Verb.AtVb 1 1 VbVerb.Dead) turns_and_stops (Answer.No Cause.Stopped) → ⊥
stopped_behind l = not_both (l.1.0 1)

-- the link is over then
over_at : (l : ℕ) → is_dial_at 1 ((after_lines one_dialed (turns_and_stops ++ ends_at 1 ∷ [])).dial_of l) ≡ false
over_at l = elim (l == 1) as (λ b. is_dial_at 1 (if b then None else if b then Some (record { producer = 0; node = 1; vb = 0 }) else None) ≡ false) [ true ↦ refl | false ↦ refl ]

over_for : (l : ℕ) → is_dial_for 1 1 ((after_lines one_dialed (turns_and_stops ++ ends_at 1 ∷ [])).dial_of l) ≡ false
over_for l = elim (l == 1) as (λ b. is_dial_for 1 1 (if b then None else if b then Some (record { producer = 0; node = 1; vb = 0 }) else None) ≡ false) [ true ↦ refl | false ↦ refl ]

pub stopped_told : AllEnded one_dialed (Verb.AtVb 1 1 VbVerb.Dead) (turns_and_stops ++ ends_at 1 ∷ []) (Answer.No Cause.Stopped)
stopped_told = (inr over_for, (over_at, tt))

pub stopped_elsewhere : AllEnded one_dialed (Verb.AtVb 2 0 VbVerb.Dead) (stops_at 2 ∷ []) (Answer.No Cause.Stopped)
stopped_elsewhere = (inl refl, (other_end, tt))

pub promote : NotAlone (Verb.AtVb 1 0 (VbVerb.Promote 7)) (rises 0)
promote said l = ⊎_elim (λ e. cc) (λ none. not_both (none 1)) l.0.11.0

pub follow : NotAlone (Verb.AtVb 1 0 VbVerb.Follow) (turns Role.Replica)
follow said l = ⊎_elim (λ e. cc) (λ none. not_both (none 1)) l.0.11.0

pub dead : NotAlone (Verb.AtVb 1 0 VbVerb.Dead) (turns Role.Dead)
dead said l = ⊎_elim (λ e. cc) (λ none. not_both (none 1)) l.0.11.0

pub dead_told : LawfulHere one_dialed (Verb.AtVb 1 0 VbVerb.Dead) (ok (ends_at 1 ∷ turns Role.Dead))
dead_told = here (Verb.AtVb 1 0 VbVerb.Dead) (ok (ends_at 1 ∷ turns Role.Dead)) refl ((((_, refl), (record { another = λ e. cc; anew = λ e. cc; pending = λ e. cc }, tt)), (refl, tt), refl), tt) refl (Told ((inr (one_unfed 1 0), tt), tt))

pub promote_beside : LawfulHere one_dialed (Verb.AtVb 1 1 (VbVerb.Promote 7)) (ok (rises 1))
promote_beside = here (Verb.AtVb 1 1 (VbVerb.Promote 7)) (ok (rises 1)) refl ((((record { new = tt; newest = refl; last = refl; leaves = refl }), (record { another = λ e. cc; anew = λ e. made_here _ _ _ 7 refl refl refl; pending = λ e. cc }, tt)), (refl, tt), refl), tt) refl (Told ((inr unfed, tt), tt))

pub cut : LawfulHere one_dialed (over_one LinkVerb.Cut) (ok []) → ⊥
cut l = let e : ◌≡◌ {A = Option Dial} (Some (record { producer = 0; node = 1; vb = 0 })) None = l.0.11.0 in cc

pub cut_told : LawfulHere one_dialed (over_one LinkVerb.Cut) (ok (ends_at 1 ∷ []))
cut_told = here (over_one LinkVerb.Cut) (ok (ends_at 1 ∷ [])) refl ((((_, refl), tt), tt, refl), tt) refl (Told ((refl, tt), tt))

-- ---- a link that goes on

going : (dial : Dial) (why : Cause) → IsOver (Some dial) why → ⊥
going dial Cause.LinkClosed e = cc
going dial other e = absurd e

pub up : IsCarried (LinkVerb.Up 9)
up why l = going _ why l.0.1

pub pump : IsCarried (LinkVerb.Pump 9)
pump why l = going _ why l.0.1

pub cut_carried : IsCarried LinkVerb.Cut
cut_carried why l = going _ why l.0.1

pub down : LawfulHere one_dialed (over_one (LinkVerb.Down 9)) ([], Answer.No Cause.LinkClosed) → ⊥
down l = going _ Cause.LinkClosed l.0.1.1

pub down_node : LawfulHere one_dialed (over_one (LinkVerb.Down 9)) ([], Answer.No Cause.NodeDown) → ⊥
down_node l = l.0.1.1

pub down_others : (why : Cause) → IsNoDisk why → LawfulHere one_dialed (over_one (LinkVerb.Down 9)) ([], Answer.No why) → ⊥
down_others Cause.Closed other l = other
down_others Cause.Disk other l = other
down_others Cause.Stopped other l = other
down_others why other l = going (record { producer = 0; node = 1; vb = 0 }) why l.0.1.1

pub up_carried : LawfulHere one_dialed (over_one (LinkVerb.Up 9)) ([], Answer.Number 9)
up_carried = here (over_one (LinkVerb.Up 9)) ([], Answer.Number 9) refl ((tt, omega arith, refl), tt) refl (Quiet refl)

-- ---- a link that is dialed

here_dialed : (m l n v : ℕ) (said : Answer) → in_line one_dialed (numbered 1 (Verb.Link l m n v 0 false ∷ [])) (groups_from_number 1 (([], said) ∷ [])) ≡ true → (let script = numbered 1 (Verb.Link l m n v 0 false ∷ []) in let told = groups_from_number 1 (([], said) ∷ []) in AreParts one_dialed script told → AreLeft one_dialed script told → all_quiet script told ≡ true → LawfulHere one_dialed (Verb.Link l m n v 0 false) ([], said))
here_dialed m l n v said o p d q =
    let script = numbered 1 (Verb.Link l m n v 0 false ∷ []) in let told = groups_from_number 1 (([], said) ∷ []) in
    whole_left one_dialed script told o p d (shut_heard one_dialed script told (λ n c. refl) refl) (tt, tt) (fired_all one_dialed script told q (p.0.2, tt))

pub again : LawfulHere one_dialed (dials 1 1) (ok []) → ⊥
again l = let e : ◌≡◌ {A = Option Dial} (Some (record { producer = 0; node = 1; vb = 0 })) None = l.0.1.0 in cc

pub fed : LawfulHere one_dialed (dials 2 0) (ok []) → ⊥
fed l = not_both (l.0.1.1 1)

pub beside : LawfulHere one_dialed (dials 2 1) (ok [])
beside = here_dialed 0 2 1 1 Answer.Ok refl ((tt, (refl, unfed), refl), tt) (tt, tt) refl

pub again_open : LawfulHere one_dialed (dials 1 1) ([], Answer.No Cause.LinkOpen)
again_open = here_dialed 0 1 1 1 (Answer.No Cause.LinkOpen) refl ((tt, inl (_, refl), refl), tt) (tt, tt) refl

pub fed_open : LawfulHere one_dialed (dials 2 0) ([], Answer.No Cause.LinkOpen)
fed_open = here_dialed 0 2 1 0 (Answer.No Cause.LinkOpen) refl ((tt, inr (1, refl), refl), tt) (tt, tt) refl

pub beside_open : LawfulHere one_dialed (dials 2 1) ([], Answer.No Cause.LinkOpen) → ⊥
beside_open l = ⊎_elim (λ d. let e : None ≡ Some d.0 = d.1 in cc) (λ k. let z : false ≡ true = sym (unfed k.0) ∙ k.1 in cc) l.0.1

pub beside_node : LawfulHere one_dialed (dials_elsewhere 2) (ok [])
beside_node = here_dialed 0 2 2 0 Answer.Ok refl ((tt, (refl, unfed_there), refl), tt) (tt, tt) refl

pub beside_node_open : LawfulHere one_dialed (dials_elsewhere 2) ([], Answer.No Cause.LinkOpen) → ⊥
beside_node_open l = ⊎_elim (λ d. let e : None ≡ Some d.0 = d.1 in cc) (λ k. let z : false ≡ true = sym (unfed_there k.0) ∙ k.1 in cc) l.0.1
