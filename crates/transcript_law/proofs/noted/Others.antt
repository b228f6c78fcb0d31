-- a line that moves bytes of one link: what is known of the others, and so of all
use Rattle.std.specs.Prelude.{◌≡◌, ◌∷◌, ◌&&◌, ◌==◌, ◌⊎◌, if◌then◌else◌}
use Rattle.std.specs.List.{list_any}
use Rattle.transcript_law.proofs.Words.{ℕ, Bool, true, false, List, refl, ap, sym, ⊎_elim, eqb-false, ne_eqb, Option, Some, Answer, Chronicle, Event, LinkVerb, PlainLink, PlainWorld, Verb, link_number}
use Rattle.transcript_law.proofs.invariant.Agreement.{Agrees, IsLink}
use Rattle.transcript_law.proofs.noted.{Groups.{dial_at, link_known, read_with}, Known.{AllKnown, LinkKnown, Remains}}
use Rattle.transcript_law.specs.Chronicles.{after_group}
use Rattle.transcript_law.specs.LinesTold.{Dial, TakeoverKnown, with_moved, with_role, with_state}
use Rattle.transcript_law.specs.TakeoverNotes.{is_grant_of, is_pump_of, is_state_of, obeyed_after, turns_consumer, turns_feeder}

-- of another link than the line's nothing more is known but whether it turned
other_obeyed : (dial : Option Dial) (k : ℕ) (what : LinkVerb) (lines : List Event) (said : Answer) (l : ℕ) (t : TakeoverKnown) → (k == l) ≡ false → obeyed_after dial (Verb.AtLink k what) lines said l t ≡ t
other_obeyed dial k (LinkVerb.Pump wanted) lines said l t e = ap (λ b. if b && list_any (is_state_of l) lines then with_state t else t) e
other_obeyed dial k (LinkVerb.Down wanted) lines said l t e = ap (λ b. if b && turns_consumer dial lines then with_role t else t) e
other_obeyed dial k (LinkVerb.Up wanted) lines (Answer.Number n) l t e = ap (λ b. if b then with_moved wanted n t else t) e
other_obeyed dial k (LinkVerb.Up wanted) lines Answer.Ok l t e = refl
other_obeyed dial k (LinkVerb.Up wanted) lines (Answer.Pulled n why) l t e = refl
other_obeyed dial k (LinkVerb.Up wanted) lines (Answer.No why) l t e = refl
other_obeyed dial k LinkVerb.Drop lines said l t e = refl
other_obeyed dial k LinkVerb.Cut lines said l t e = refl

other_pumps : (k : ℕ) (what : LinkVerb) (l : ℕ) → (k == l) ≡ false → is_pump_of l (Verb.AtLink k what) ≡ false
other_pumps k (LinkVerb.Pump wanted) l e = e
other_pumps k (LinkVerb.Down wanted) l e = refl
other_pumps k (LinkVerb.Up wanted) l e = refl
other_pumps k LinkVerb.Drop l e = refl
other_pumps k LinkVerb.Cut l e = refl

-- each link is the line's, of which this is known, or another one that was there
abbrev pub OthersRemain : ℕ → List Event → List PlainLink → List PlainLink → (PlainLink → Type 0) → Type 0
OthersRemain k lines links links' Own = (x : PlainLink) → IsLink x links' → Own x ⊎ ((link_number x ≡ k → ⊥) × (y : PlainLink) × IsLink y links × Remains (turns_feeder (Some (dial_at x)) lines) y x)

-- lines let no other link continue
abbrev pub GrantsAlone : ℕ → List Event → Type 0
GrantsAlone k lines = (l : ℕ) → (l ≡ k → ⊥) → list_any (is_grant_of l) lines ≡ false

pub moved_known : (w w' : PlainWorld) (r : Chronicle) (k : ℕ) (what : LinkVerb) (lines : List Event) (said : Answer) → (let after = after_group r (Verb.AtLink k what) lines said in Agrees w' after → GrantsAlone k lines
    → OthersRemain k lines w.links w'.links (λ x. LinkKnown (after.takeover_of (link_number x)) x) → AllKnown w r → AllKnown w' after)
moved_known w w' r k what lines said a grants remain all x i = ⊎_elim (λ known. known)
    (λ (other, y, j, on).
    let l = link_number x in let apart : (k == l) ≡ false = ne_eqb k l (λ e. other (sym e)) in
    link_known w' r (Verb.AtLink k what) lines said a y x i (grants l other) (other_pumps k what l apart)
    (other_obeyed ((read_with r (Verb.AtLink k what) lines said).dial_of l) k what lines said l (r.takeover_of l) apart) on (all y j))
    (remain x i)
