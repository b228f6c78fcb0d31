-- the lines of a group by what its line may tell: one that becomes active makes its branch, or is its heir
use Rattle.std.specs.Prelude.{◌≡◌, ◌∷◌, ◌++◌, ◌&&◌, ◌||◌, ◌==◌, ◌⊎◌, if◌then◌else◌, false, not}
use Rattle.std.specs.List.{list_any}
use Rattle.script_text.specs.declared.verb.LinkVerb.TheVariants as link_verb
use Rattle.script_text.specs.declared.verb.Verb.TheVariants as verb
use Rattle.transcript_law.proofs.Words.{ℕ, Bool, true, List, [], refl, ap, sym, ◌∙◌, subst, inl, inr, ⊎_elim, and_parts, eqb-true, Option, Some, None, Answer, Chronicle, Event, LogEntry, Role, StreamName, Verb, after_line, after_lines}
use Rattle.transcript_law.proofs.heirless.Barren.{TurnFits, TurnsFit}
use Rattle.transcript_law.proofs.invariant.{Tables.{at_here}, Trees.{IsTold, is_told_grow, is_told_there, new_untold}}
use Rattle.transcript_law.proofs.lines.Rises.{is_level, none_rise}
use Rattle.transcript_law.proofs.noted.FreedGroups.{line_dials, ruled}
use Rattle.transcript_law.proofs.verbs.{Handing.{each_made}, Tellings.{each_told}}
use Rattle.transcript_law.specs.{Asked.{TellsAsAsked}, Clients.{Heard}, Heirs.{IsHeir}, Lawfulness.{LawfulLine, LinesFrom}}
use Rattle.transcript_law.specs.Chronicles.{Conns, is_rise}
use Rattle.transcript_law.specs.LinesTold.{ArmKnown, Dial}
use Rattle.transcript_law.specs.Takeovers.{MovesAt, TellsMove, TellsOnly, all_made, is_commit, is_of_over, is_own_commit, makes_at}
use Rattle.transcript_law.specs.Tellings.{TellsOf, are_all, are_told, at_link, is_of_clients, is_of_disk, is_of_down, is_of_end, is_of_pump, may_tell}
use Rattle.vb_types.specs.declared.stream.AskAnswer.TheVariants as ask_answer

-- one that becomes active on the branch is its heir
abbrev pub RisesFit : ℕ → Chronicle → List Event → Type 0
RisesFit u r [] = Unit {0}
RisesFit u r (Event.Role n v Role.Active ∷ lines) = (r.branch_at n v ≡ Some u → IsHeir r n v) × RisesFit u (after_line r (Event.Role n v Role.Active)) lines
RisesFit u r (line ∷ lines) = RisesFit u (after_line r line) lines

-- one that takes a log over is not active
abbrev pub AdoptsFit : Chronicle → List Event → Type 0
AdoptsFit r [] = Unit {0}
AdoptsFit r (Event.Adopted n v log ∷ lines) = (r.role_at n v ≡ Some (Some Role.Active) → ⊥) × AdoptsFit (after_line r (Event.Adopted n v log)) lines
AdoptsFit r (line ∷ lines) = AdoptsFit (after_line r line) lines

-- the node of each link's producer is not down
abbrev pub FeedersUp : Chronicle → Type 0
FeedersUp r = (l : ℕ) (d : Dial) → r.dial_of l ≡ Some d → (r.arm_at d.producer).down ≡ false

pub line_arms : (r : Chronicle) (line : Event) → (after_line r line).arm_at ≡ r.arm_at
line_arms r (Event.Asked (StreamName.Client n c) m v ask high log said) = refl
line_arms r (Event.Asked (StreamName.Link l) m v ask high log ask_answer.Go) = refl
line_arms r (Event.Asked (StreamName.Link l) m v ask high log (ask_answer.Roll to)) = refl
line_arms r (Event.Asked (StreamName.Link l) m v ask high log (ask_answer.Refuse code)) = refl
line_arms r (Event.Marked (StreamName.Client n c) start end flags) = refl
line_arms r (Event.Marked (StreamName.Link l) start end flags) = refl
line_arms r (Event.Item (StreamName.Client n c) seq act key) = refl
line_arms r (Event.Item (StreamName.Link l) seq act key) = refl
line_arms r (Event.Finished (StreamName.Client n c) reason) = refl
line_arms r (Event.Finished (StreamName.Link l) reason) = refl
line_arms r (Event.Stated (StreamName.Client n c) role) = refl
line_arms r (Event.Stated (StreamName.Link l) role) = refl
line_arms r other = refl

up_still : (r : Chronicle) (line : Event) → FeedersUp r → FeedersUp (after_line r line)
up_still r line up l d e = ap (λ (t : ℕ → ArmKnown). (t d.producer).down) (line_arms r line) ∙ up l d (line_dials r line l d e)

pub turns_fit : (u : ℕ) (r : Chronicle) (lines : List Event) → FeedersUp r → RisesFit u r lines → AdoptsFit r lines → TurnsFit u r lines
turns_fit u r [] up rises adopts = tt
turns_fit u r (Event.Role n v Role.Active ∷ lines) up rises adopts = (rises.0, turns_fit u (after_line r (Event.Role n v Role.Active)) lines (up_still r (Event.Role n v Role.Active) up) rises.1 adopts)
turns_fit u r (Event.Role n v Role.Replica ∷ lines) up rises adopts = (tt, turns_fit u (after_line r (Event.Role n v Role.Replica)) lines (up_still r (Event.Role n v Role.Replica) up) rises adopts)
turns_fit u r (Event.Role n v Role.Pending ∷ lines) up rises adopts = (tt, turns_fit u (after_line r (Event.Role n v Role.Pending)) lines (up_still r (Event.Role n v Role.Pending) up) rises adopts)
turns_fit u r (Event.Role n v Role.Dead ∷ lines) up rises adopts = (tt, turns_fit u (after_line r (Event.Role n v Role.Dead)) lines (up_still r (Event.Role n v Role.Dead) up) rises adopts)
turns_fit u r (Event.Adopted n v log ∷ lines) up rises adopts = (λ runs active. adopts.0 active, turns_fit u (after_line r (Event.Adopted n v log)) lines (up_still r (Event.Adopted n v log) up) rises adopts.1)
turns_fit u r (Event.Stated (StreamName.Link l) Role.Pending ∷ lines) up rises adopts = (λ d e. up l d e, turns_fit u (after_line r (Event.Stated (StreamName.Link l) Role.Pending)) lines (up_still r (Event.Stated (StreamName.Link l) Role.Pending) up) rises adopts)
turns_fit u r (Event.Stated (StreamName.Link l) Role.Active ∷ lines) up rises adopts = (tt, turns_fit u (after_line r (Event.Stated (StreamName.Link l) Role.Active)) lines (up_still r (Event.Stated (StreamName.Link l) Role.Active) up) rises adopts)
turns_fit u r (Event.Stated (StreamName.Link l) Role.Replica ∷ lines) up rises adopts = (tt, turns_fit u (after_line r (Event.Stated (StreamName.Link l) Role.Replica)) lines (up_still r (Event.Stated (StreamName.Link l) Role.Replica) up) rises adopts)
turns_fit u r (Event.Stated (StreamName.Link l) Role.Dead ∷ lines) up rises adopts = (tt, turns_fit u (after_line r (Event.Stated (StreamName.Link l) Role.Dead)) lines (up_still r (Event.Stated (StreamName.Link l) Role.Dead) up) rises adopts)
turns_fit u r (Event.Stated (StreamName.Client n c) role ∷ lines) up rises adopts = (tt, turns_fit u (after_line r (Event.Stated (StreamName.Client n c) role)) lines (up_still r (Event.Stated (StreamName.Client n c) role) up) rises adopts)
turns_fit u r (line ∷ lines) up rises adopts = (tt, turns_fit u (after_line r line) lines (up_still r line up) rises adopts)

-- ---- vBuckets that become active

pub level_fits : (u : ℕ) (r : Chronicle) (lines : List Event) → list_any is_rise lines ≡ false → RisesFit u r lines
level_fits u r [] e = tt
level_fits u r (Event.Role n v Role.Active ∷ lines) e = cc
level_fits u r (line ∷ lines) e = level_fits u (after_line r line) lines e

-- behind lines of which none tells so
pub rises_behind : (u : ℕ) (r : Chronicle) (front more : List Event) → list_any is_rise front ≡ false → RisesFit u (after_lines r front) more → RisesFit u r (front ++ more)
rises_behind u r [] more e x = x
rises_behind u r (Event.Role n v Role.Active ∷ front) more e x = cc
rises_behind u r (line ∷ front) more e x = rises_behind u (after_line r line) front more e x

-- the line of a branch stands in front
abbrev Made : ℕ → Chronicle → Option Event → Type 0
Made u r (Some (Event.Branch n v uuid parent fork high)) = (r.branch_at n v ≡ Some uuid) × (uuid ≡ u → ⊥)
Made u r other = Unit {0}

pub told_on : (u : ℕ) (r : Chronicle) (line : Event) (behind : List Event) → LawfulLine r line behind → IsTold r.tree u → IsTold (after_line r line).tree u
told_on u r (Event.Branch n v uuid parent fork high) behind l t = is_told_there _ r.tree u (λ e. new_untold uuid r.tree l.new (subst (IsTold r.tree) (sym e) t)) t
told_on u r (Event.Changed n v uuid change) behind l t = is_told_grow r.tree uuid change u t
told_on u r (Event.Asked (StreamName.Client n c) m v ask high log said) behind l t = t
told_on u r (Event.Asked (StreamName.Link k) m v ask high log ask_answer.Go) behind l t = t
told_on u r (Event.Asked (StreamName.Link k) m v ask high log (ask_answer.Roll to)) behind l t = t
told_on u r (Event.Asked (StreamName.Link k) m v ask high log (ask_answer.Refuse code)) behind l t = t
told_on u r (Event.Marked (StreamName.Client n c) start end flags) behind l t = t
told_on u r (Event.Marked (StreamName.Link k) start end flags) behind l t = t
told_on u r (Event.Item (StreamName.Client n c) seq act key) behind l t = t
told_on u r (Event.Item (StreamName.Link k) seq act key) behind l t = t
told_on u r (Event.Finished (StreamName.Client n c) reason) behind l t = t
told_on u r (Event.Finished (StreamName.Link k) reason) behind l t = t
told_on u r (Event.Stated (StreamName.Client n c) role) behind l t = t
told_on u r (Event.Stated (StreamName.Link k) role) behind l t = t
told_on u r other behind l t = t

made_on : (u : ℕ) (r : Chronicle) (line : Event) (behind : List Event) → LawfulLine r line behind → IsTold r.tree u → Made u (after_line r line) (Some line)
made_on u r (Event.Branch n v uuid parent fork high) behind l t = (at_here r.branch_at n v (Some uuid), λ e. new_untold uuid r.tree l.new (subst (IsTold r.tree) (sym e) t))
made_on u r other behind l t = tt

made_here : (u : ℕ) (r : Chronicle) (before : Option Event) (n v : ℕ) → Made u r before → makes_at n v before ≡ true → r.branch_at n v ≡ Some u → ⊥
made_here u r None n v m e on = cc
made_here u r (Some (Event.Branch k q uuid parent fork high)) n v m e on =
    let p = and_parts (k == n) (q == v) e in
    let z : Some uuid ≡ Some u = sym m.0 ∙ (λ i. r.branch_at (eqb-true k n p.0 i) (eqb-true q v p.1 i)) ∙ on in let same : uuid ≡ u = cc in m.1 same
made_here u r (Some other) n v m e on = cc

pub made_fits : (u : ℕ) (r : Chronicle) (conns : Conns) (before : Option Event) (lines : List Event) → IsTold r.tree u → Made u r before → all_made before lines ≡ true → LinesFrom r conns lines → RisesFit u r lines
made_fits u r conns before [] t m e l = tt
made_fits u r conns before (Event.Role n v Role.Active ∷ lines) t m e l = let p = and_parts (makes_at n v before) (all_made (Some (Event.Role n v Role.Active)) lines) e in
    (λ on. absurd (made_here u r before n v m p.0 on), made_fits u (after_line r (Event.Role n v Role.Active)) _ (Some (Event.Role n v Role.Active)) lines t tt p.1 l.1)
made_fits u r conns before (line ∷ lines) t m e l = let law = ruled conns line lines (LawfulLine r line lines) l.0 in
    made_fits u (after_line r line) _ (Some line) lines (told_on u r line lines law t) (made_on u r line lines law t) e l.1

-- ---- logs that are taken over

abbrev pub is_adopt : Event → Bool
is_adopt (Event.Adopted n v log) = true
is_adopt other = false

-- none is
abbrev pub adopts_none : Event → Bool
adopts_none line = not (is_adopt line)

pub none_adopts : (r : Chronicle) (lines : List Event) → are_all adopts_none lines ≡ true → AdoptsFit r lines
none_adopts r [] e = tt
none_adopts r (Event.Adopted n v log ∷ lines) e = cc
none_adopts r (line ∷ lines) e = none_adopts (after_line r line) lines e

-- lines that leave all roles, and take logs over at this vBucket alone
abbrev pub adopts_at : ℕ → ℕ → Event → Bool
adopts_at n v (Event.Adopted m q log) = m == n && q == v
adopts_at n v (Event.Role m q role) = false
adopts_at n v (Event.Branch m q uuid parent fork high) = false
adopts_at n v other = true

roles_still : (r : Chronicle) (n v : ℕ) (line : Event) → adopts_at n v line ≡ true → (after_line r line).role_at ≡ r.role_at
roles_still r n v (Event.Branch m q uuid parent fork high) e = cc
roles_still r n v (Event.Role m q role) e = cc
roles_still r n v (Event.Asked (StreamName.Client m c) k q ask high log said) e = refl
roles_still r n v (Event.Asked (StreamName.Link l) k q ask high log ask_answer.Go) e = refl
roles_still r n v (Event.Asked (StreamName.Link l) k q ask high log (ask_answer.Roll to)) e = refl
roles_still r n v (Event.Asked (StreamName.Link l) k q ask high log (ask_answer.Refuse code)) e = refl
roles_still r n v (Event.Marked (StreamName.Client m c) start end flags) e = refl
roles_still r n v (Event.Marked (StreamName.Link l) start end flags) e = refl
roles_still r n v (Event.Item (StreamName.Client m c) seq act key) e = refl
roles_still r n v (Event.Item (StreamName.Link l) seq act key) e = refl
roles_still r n v (Event.Finished (StreamName.Client m c) reason) e = refl
roles_still r n v (Event.Finished (StreamName.Link l) reason) e = refl
roles_still r n v (Event.Stated (StreamName.Client m c) role) e = refl
roles_still r n v (Event.Stated (StreamName.Link l) role) e = refl
roles_still r n v other e = refl

-- where it is not active
pub follower_adopts : (r : Chronicle) (n v : ℕ) (lines : List Event) → are_all (adopts_at n v) lines ≡ true → (r.role_at n v ≡ Some (Some Role.Active) → ⊥) → AdoptsFit r lines
follower_adopts r n v [] a rests = tt
follower_adopts r n v (Event.Adopted m q log ∷ lines) a rests =
    let p = and_parts (m == n && q == v) (are_all (adopts_at n v) lines) a in let s = and_parts (m == n) (q == v) p.0 in
    (λ active. rests ((λ i. r.role_at (sym (eqb-true m n s.0) i) (sym (eqb-true q v s.1) i)) ∙ active), follower_adopts (after_line r (Event.Adopted m q log)) n v lines p.1 rests)
follower_adopts r n v (line ∷ lines) a rests = let p = and_parts (adopts_at n v line) (are_all (adopts_at n v) lines) a in
    follower_adopts (after_line r line) n v lines p.1 (λ active. rests (ap (λ (t : ℕ → ℕ → Option (Option Role)). t n v) (sym (roles_still r n v line p.0)) ∙ active))

pub adopts_behind : (r : Chronicle) (front more : List Event) → AdoptsFit r front → AdoptsFit (after_lines r front) more → AdoptsFit r (front ++ more)
adopts_behind r [] more f x = x
adopts_behind r (Event.Adopted n v log ∷ front) more f x = (f.0, adopts_behind (after_line r (Event.Adopted n v log)) front more f.1 x)
adopts_behind r (line ∷ front) more f x = adopts_behind (after_line r line) front more f x
