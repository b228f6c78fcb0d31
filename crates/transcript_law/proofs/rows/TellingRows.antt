-- lines that tell of something that they may not, judged by hand
use Rattle.std.specs.Prelude.{◌≡◌, ◌==◌, ◌∷◌}
use Rattle.transcript_law.proofs.Words.{ℕ, Bool, true, false, [], refl, sym, ◌∙◌, arith, ⊎_elim, and_parts, eqb-true, Option, Some, None, Chronicle, Event, LinkVerb, NodeVerb, Verb, VbVerb}
use Rattle.transcript_law.proofs.rows.{Silent.{shut_heard}, Ended.{one_cut}, Groups.{in_place, Told, whole}}
use Rattle.transcript_law.proofs.lines.Takeovers.{plain_for}
use Rattle.transcript_law.specs.Takeovers.{IsPlainFor}
use Rattle.transcript_law.proofs.verbs.{Handing.{tells_of}, Tellings.{tell_first, tell_second}}
use Rattle.transcript_law.specs.BoundRows.{LawfulHere, one_dialed}
use Rattle.transcript_law.specs.Chronicles.{at_line}
use Rattle.transcript_law.specs.Crashes.{groups_from_number, numbered, ok}
use Rattle.transcript_law.specs.LinesTold.{Dial}
use Rattle.transcript_law.specs.TellingRows.{MayNotTell, NoneAt, NoneOf, NotBehindStop, NotFirst, asks_at, ends_at, makes_at, says_to}
use Rattle.transcript_law.specs.Tellings.{are_all, at_link, is_of_end, may_tell}
use Rattle.vb_disk.specs.declared.made.Outcome.TheVariants.{Old}
use Rattle.vb_types.specs.declared.stream.StreamAsk.{StreamAsk}

-- this does not pass
never : {a : Bool} → a ≡ false → a ≡ true → ⊥
never fails holds = let z : false ≡ true = sym fails ∙ holds in cc

-- the number of a line tells nothing of links
plain_at : (r : Chronicle) (asked : Verb) → IsPlainFor r asked → IsPlainFor (at_line r 1) asked
plain_at r (Verb.AtLink l what) plain = plain
plain_at r other plain = tt

-- whatever was read, the line may not tell so, nor may it where its node stopped, if it may tell that
pub may_not_behind : (asked : Verb) (wrong : Event) → ((chronicle : Chronicle) → may_tell chronicle asked wrong ≡ false) → ((chronicle : Chronicle) (m : ℕ) → may_tell chronicle asked (Event.NodeStopped m) ≡ true → is_of_end chronicle m wrong ≡ true → ⊥) → MayNotTell asked wrong
may_not_behind asked wrong strange behind = record {
  first = λ chronicle lines said plain l. let r : Chronicle = at_line chronicle 1 in never (strange r) (tell_first (may_tell r asked) (is_of_end r) wrong lines (tells_of r asked (wrong ∷ lines) said (plain_at chronicle asked plain) l.0.5));
  later = λ chronicle before lines said plain l. let r : Chronicle = at_line chronicle 1 in ⊎_elim (λ may. never (strange r) may) (λ ended. behind r ended.0 ended.1 ended.2) (tell_second (may_tell r asked) (is_of_end r) before wrong lines (tells_of r asked (before ∷ wrong ∷ lines) said (plain_at chronicle asked plain) l.0.5));
}

-- what ends with no node
pub may_not : (asked : Verb) (wrong : Event) → ((chronicle : Chronicle) → may_tell chronicle asked wrong ≡ false) → ((chronicle : Chronicle) (m : ℕ) → is_of_end chronicle m wrong ≡ false) → MayNotTell asked wrong
may_not asked wrong strange lasts = may_not_behind asked wrong strange (λ chronicle m stops ends. never (lasts chronicle m) ends)

-- lines that tell of no stop
pub may_never : (asked : Verb) (wrong : Event) → ((chronicle : Chronicle) → may_tell chronicle asked wrong ≡ false) → ((chronicle : Chronicle) (m : ℕ) → may_tell chronicle asked (Event.NodeStopped m) ≡ false) → MayNotTell asked wrong
may_never asked wrong strange goes_on = may_not_behind asked wrong strange (λ chronicle m stops ends. never (goes_on chronicle m) stops)

-- a line for a link, however that was dialed
pub link_never : (l : ℕ) (what : LinkVerb) (wrong : Event) → ((dial : Dial) → at_link (Some dial) l what wrong ≡ false) → ((dial : Dial) (m : ℕ) → at_link (Some dial) l what (Event.NodeStopped m) ≡ false) → MayNotTell (Verb.AtLink l what) wrong
link_never l what wrong strange goes_on = may_never (Verb.AtLink l what) wrong (λ chronicle. any wrong strange (chronicle.dial_of l)) (λ chronicle m. any (Event.NodeStopped m) (λ dial. goes_on dial m) (chronicle.dial_of l))
  where
    any : (line : Event) → ((dial : Dial) → at_link (Some dial) l what line ≡ false) → (dial : Option Dial) → at_link dial l what line ≡ false
    any line each None = refl
    any line each (Some dial) = each dial

-- where the link 1 is dialed
pub not_first : (asked : Verb) (wrong : Event) → may_tell (at_line one_dialed 1) asked wrong ≡ false → NotFirst asked wrong
not_first asked wrong fails lines said l = let r : Chronicle = at_line one_dialed 1 in never fails (tell_first (may_tell r asked) (is_of_end r) wrong lines (tells_of r asked (wrong ∷ lines) said (plain_for r asked (λ k. refl)) l.0.5))

-- and a node stopped
pub not_behind_stop : (asked : Verb) (n : ℕ) (wrong : Event) → is_of_end (at_line one_dialed 1) n wrong ≡ false → NotBehindStop asked n wrong
not_behind_stop asked n wrong fails lines said l =
    let r : Chronicle = at_line one_dialed 1 in let stop = and_parts (may_tell r asked (Event.NodeStopped n)) (are_all (is_of_end r n) (wrong ∷ lines)) (tells_of r asked (Event.NodeStopped n ∷ wrong ∷ lines) said (plain_for r asked (λ k. refl)) l.0.5) in never fails (and_parts (is_of_end r n wrong) (are_all (is_of_end r n) lines) stop.1).0

-- ---- clients of other nodes, and other clients

-- where only the node 0 may stop, no connection of the node 1 is let go
pub other_node : (m : ℕ) → (m == 0) ≡ true → (1 == m) ≡ true → ⊥
other_node m at other = let e : ◌≡◌ {A = ℕ} 1 0 = eqb-true 1 m other ∙ eqb-true m 0 at in omega (arith, e)

-- lines that tell of no stop
pub none_of : (asked : Verb) (n c : ℕ) → ((chronicle : Chronicle) (ask : StreamAsk) → may_tell chronicle asked (asks_at n c ask) ≡ false) → ((chronicle : Chronicle) → may_tell chronicle asked (says_to n c) ≡ false) → ((chronicle : Chronicle) → may_tell chronicle asked (Event.Closed n c) ≡ false)
    → ((chronicle : Chronicle) (m : ℕ) → may_tell chronicle asked (Event.NodeStopped m) ≡ false) → NoneOf asked n c
none_of asked n c request answer closing goes_on = record {
  request = λ ask. may_never asked (asks_at n c ask) (λ r. request r ask) goes_on;
  answer = may_never asked (says_to n c) answer goes_on;
  closing = may_never asked (Event.Closed n c) closing goes_on;
}

-- a change of role at the node 0 tells of nobody at the node 1
pub turn_none : (v : ℕ) (what : VbVerb) → ((chronicle : Chronicle) → may_tell chronicle (Verb.AtVb 0 v what) (makes_at 1) ≡ false) → ((chronicle : Chronicle) (c : ℕ) (ask : StreamAsk) → may_tell chronicle (Verb.AtVb 0 v what) (asks_at 1 c ask) ≡ false) → ((chronicle : Chronicle) (c : ℕ) → may_tell chronicle (Verb.AtVb 0 v what) (says_to 1 c) ≡ false)
    → ((chronicle : Chronicle) (c : ℕ) → may_tell chronicle (Verb.AtVb 0 v what) (Event.Closed 1 c) ≡ false) → ((chronicle : Chronicle) (m : ℕ) → may_tell chronicle (Verb.AtVb 0 v what) (Event.NodeStopped m) ≡ true → (m == 0) ≡ true) → NoneAt (Verb.AtVb 0 v what) 1
turn_none v what change request answer closing stops = record {
  change = may_not (Verb.AtVb 0 v what) (makes_at 1) change (λ r m. refl);
  clients = λ c. record {
    request = λ ask. may_not (Verb.AtVb 0 v what) (asks_at 1 c ask) (λ r. request r c ask) (λ r m. refl);
    answer = may_not (Verb.AtVb 0 v what) (says_to 1 c) (λ r. answer r c) (λ r m. refl);
    closing = may_not_behind (Verb.AtVb 0 v what) (Event.Closed 1 c) (λ r. closing r c) (λ r m at other. other_node m (stops r m at) other);
  };
}

-- ---- a node that ends

-- the one link is cut
abbrev Cuts : ℕ → Type 0
Cuts n = LawfulHere one_dialed (Verb.AtNode n (NodeVerb.Crash Old)) (ok (ends_at 1 ∷ []))

cut_at : (n : ℕ) → in_place one_dialed (numbered 1 (Verb.AtNode n (NodeVerb.Crash Old) ∷ [])) (groups_from_number 1 (ok (ends_at 1 ∷ []) ∷ [])) ≡ true → Cuts n
cut_at n at = whole one_dialed (numbered 1 (Verb.AtNode n (NodeVerb.Crash Old) ∷ [])) (groups_from_number 1 (ok (ends_at 1 ∷ []) ∷ [])) at ((((_, refl), tt), (λ c. refl), refl), tt)
    (shut_heard one_dialed (numbered 1 (Verb.AtNode n (NodeVerb.Crash Old) ∷ [])) (groups_from_number 1 (ok (ends_at 1 ∷ []) ∷ [])) (λ m c. refl) refl) (Told ((one_cut n, tt), tt))

-- by a crash of each node at an end of it
pub crashed : Cuts 0 × Cuts 1
crashed = (cut_at 0 refl, cut_at 1 refl)
