-- what the lines `up`, `down` and `pump` come to, from the proofs of each
use Rattle.std.specs.Prelude.{◌≡◌, ◌∷◌, ◌++◌}
use Rattle.transcript_law.proofs.Words.{ℕ, Bool, true, false, List, [], refl, ap, sym, ◌∙◌, subst, ⊎_elim, and_parts, Option, Some, None, Answer, Chronicle, ClientVerb, Event, LinkVerb, PlainLink, PlainNode, PlainWorld, Role, StreamName, Verb, Why, after_line, link_number, moved_len, peer_of, producer_node, row_at, stays, take, take_snapshots, verb_step, with_branches, with_up}
use Rattle.node_world.specs.{Links.{peer_given}, World.{pump_step}}
use Rattle.vbucket.proofs.Ending.{takes_exactly}
use Rattle.transcript_law.proofs.indexers.Pulled.{pull_rests}
use Rattle.transcript_law.proofs.invariant.{Agreement.{Agrees}, LinkRows.{found_is_link}, Noted.{AllKept}, Ranged.{NodeRangedIf}}
use Rattle.transcript_law.proofs.noted.{DownMoves.{down_fits, down_kept, down_known}, Freed.{LineFits, LinesFit}, Joint.{Handed, noted_of}, Known.{AllKnown}, Pumped.{pump_known}, UpAsks.{up_hands}, UpCome.{up_came}, UpFits.{ups_fit}, UpKept.{ups_kept}, UpMoves.{ups_known}, Upping.{UpCame}}
use Rattle.transcript_law.proofs.verbs.{DownLine.{down_each, down_tells}, LinkTellings.{up_tells}, Moved.{Before, Moves, is_moving}, PumpNoted.{pump_keeps, pump_knows, state_awaited}, PumpTellings.{PumpTold, pump_hands, pump_told}, Settling.{steady}, Tellings.{are_also, are_cons, are_more, each_told}}
use Rattle.transcript_law.specs.{Chronicles.{Dial, after_group, ahead}, Lawfulness.{LinesFrom}, TakeoverAnswers.{HandsOver, StateAwaited}, Takeovers.{MovesAt, TellsOnly}, Tellings.{TellsOf, are_all, at_link, is_of_clients, is_of_end, is_of_pump, may_tell}}
use Rattle.vb_types.specs.declared.stream.AskAnswer.TheVariants as ask_answer

-- ---- lines that make no branch and let no link continue

abbrev is_fit : Event → Bool
is_fit (Event.Branch n v uuid parent fork high) = false
is_fit (Event.Asked (StreamName.Link l) n v ask high log ask_answer.Go) = false
is_fit other = true

line_fits : (r : Chronicle) (line : Event) → is_fit line ≡ true → LineFits r line
line_fits r (Event.Branch n v uuid parent fork high) e = cc
line_fits r (Event.Asked (StreamName.Link l) n v ask high log ask_answer.Go) e = cc
line_fits r other e = tt

fit_lines : (r : Chronicle) (lines : List Event) → are_all is_fit lines ≡ true → LinesFit r lines
fit_lines r [] a = tt
fit_lines r (line ∷ lines) a = let p = and_parts (is_fit line) (are_all is_fit lines) a in (line_fits r line p.0, fit_lines (after_line r line) lines p.1)

end_fit : (r : Chronicle) (m : ℕ) (line : Event) → is_of_end r m line ≡ true → is_fit line ≡ true
end_fit r m (Event.Branch n v uuid parent fork high) e = cc
end_fit r m (Event.Asked (StreamName.Link l) n v ask high log ask_answer.Go) e = cc
end_fit r m other e = refl

client_fit : (n : ℕ) (line : Event) → is_of_clients n line ≡ true → is_fit line ≡ true
client_fit n (Event.Branch m v uuid parent fork high) e = cc
client_fit n (Event.Asked (StreamName.Link l) m v ask high log ask_answer.Go) e = cc
client_fit n other e = refl

pump_fit : (l : ℕ) (line : Event) → is_of_pump l line ≡ true → is_fit line ≡ true
pump_fit l (Event.Branch n v uuid parent fork high) e = cc
pump_fit l (Event.Asked (StreamName.Link k) n v ask high log ask_answer.Go) e = cc
pump_fit l other e = refl

pump_may : (dial : Option Dial) (l frames : ℕ) (line : Event) → at_link dial l (LinkVerb.Pump frames) line ≡ true → is_fit line ≡ true
pump_may None l frames line e = cc
pump_may (Some dial) l frames line e = pump_fit l line e

pump_moves : (r : Chronicle) (dial : Option Dial) (l frames : ℕ) (lines : List Event) → MovesAt r dial l (LinkVerb.Pump frames) lines → are_all is_fit lines ≡ true
pump_moves r None l frames lines g = absurd g
pump_moves r (Some dial) l frames lines g =
    subst (λ ls. are_all is_fit ls ≡ true) (sym g.together)
    (are_cons is_fit (Event.Role dial.producer dial.vb Role.Dead) (g.told ++ g.frames) refl
    (are_more is_fit g.told g.frames (are_also is_fit (is_of_clients dial.producer) (client_fit dial.producer) g.told g.clients) (are_also is_fit (is_of_pump l) (pump_fit l) g.frames g.put)))

pump_fits : (r before : Chronicle) (l frames : ℕ) (lines : List Event) → TellsOnly r (Verb.AtLink l (LinkVerb.Pump frames)) lines → LinesFit before lines
pump_fits r before l frames lines t = fit_lines before lines (⊎_elim
    (λ told. each_told (may_tell r (Verb.AtLink l (LinkVerb.Pump frames))) (is_of_end r) is_fit (pump_may (r.dial_of l) l frames) (λ m stops line e. end_fit r m line e) lines told)
    (λ g. pump_moves r (r.dial_of l) l frames lines g) t)

-- ---- the line `pump`

pumped : (w : PlainWorld) (r : Chronicle) (l frames : ℕ) → Before w r (Verb.AtLink l (LinkVerb.Pump frames)) → PumpTold w r l frames (pump_step w l frames)
pumped w r l frames b = pump_told take_snapshots stays steady w r l frames b.agrees b.ranged b.calm.0 (pump_known w r b.handed)

-- ---- the line `up`

came_up : (w : PlainWorld) (r : Chronicle) (l wanted : ℕ) → Before w r (Verb.AtLink l (LinkVerb.Up wanted)) → (link : PlainLink) (node : PlainNode) → row_at link_number (link_number link) w.links ≡ Some link → w.nodes (producer_node link) ≡ Some node
    → (let x = peer_given (take (moved_len wanted link.up) link.up) (peer_of link) node in UpCame x.1.events wanted (moved_len wanted link.up) link (with_up link (moved_len wanted link.up) x.1))
came_up w r l wanted b link node found at =
    let x = peer_given (take (moved_len wanted link.up) link.up) (peer_of link) node in let n : ℕ = moved_len wanted link.up in
    let is = found_is_link (link_number link) w.links link found in
    let (link', same, c) = up_came stays steady w r wanted link found (noted_of w r b.handed link is.0).dialed node at (subst (NodeRangedIf (producer_node link)) at (b.ranged (producer_node link))) b.calm.0 b.agrees in
    let one : with_up link n x.1 ≡ link' = cc in
    subst (UpCame x.1.events wanted n link) (sym one) c

-- ---- each of them

hands : (w : PlainWorld) (r : Chronicle) (number : ℕ) (line : Verb) → is_moving line ≡ true → Before w r line → (let o = verb_step w number line in HandsOver r line o.1.events o.1.answer)
hands w r number (Verb.AtLink l (LinkVerb.Up wanted)) moving b = up_hands stays steady w r l wanted b.ranged b.calm.0 (noted_of w r b.handed) b.agrees (up_tells w r b.agrees l b.ranged wanted)
hands w r number (Verb.AtLink l (LinkVerb.Down wanted)) moving b = record { tells = down_tells stays w r l wanted b.agrees (noted_of w r b.handed) b.handed.free; each = down_each stays w r l wanted b.agrees (noted_of w r b.handed) b.handed.free b.handed.ends; pumps = tt }
hands w r number (Verb.AtLink l (LinkVerb.Pump frames)) moving b = pump_hands w r l frames (pump_step w l frames) (pumped w r l frames b)
hands w r number other moving b = cc

known : (w : PlainWorld) (r : Chronicle) (number : ℕ) (line : Verb) → is_moving line ≡ true → Before w r line
    → (let o = verb_step w number line in Agrees (with_branches o.1.events o.0) (after_group r line o.1.events o.1.answer) → AllKnown (with_branches o.1.events o.0) (after_group r line o.1.events o.1.answer))
known w r number (Verb.AtLink l (LinkVerb.Up wanted)) moving b later = ups_known w r wanted b.agrees b.handed.known (λ link node found at. came_up w r l wanted b link node found at) l (up_tells w r b.agrees l b.ranged wanted) later
known w r number (Verb.AtLink l (LinkVerb.Down wanted)) moving b later = (let o = verb_step w number (Verb.AtLink l (LinkVerb.Down wanted)) in down_known stays w (with_branches o.1.events o.0) r l wanted b.agrees (noted_of w r b.handed) b.handed.free b.handed.known refl later)
known w r number (Verb.AtLink l (LinkVerb.Pump frames)) moving b later = pump_knows w r l frames b.agrees b.handed.known (pump_step w l frames) (pumped w r l frames b) later
known w r number other moving b later = cc

awaits : (w : PlainWorld) (r : Chronicle) (number : ℕ) (line : Verb) → Before w r line → (n : ℕ) → (let x = (verb_step w number line).1 in x.answer ≡ Answer.Pulled n Why.WaitState → StateAwaited r line x.events)
awaits w r number (Verb.AtLink l (LinkVerb.Pump frames)) b n q = state_awaited w r l frames b.agrees b.handed.known (pump_step w l frames) (pumped w r l frames b) n q
awaits w r number (Verb.AtClient m c (ClientVerb.Pull frames)) b n q = absurd (pull_rests take_snapshots takes_exactly w r m c frames n b.ranged b.agrees q)
awaits w r number other b n q = tt

fits : (w : PlainWorld) (r : Chronicle) (number : ℕ) (line : Verb) → is_moving line ≡ true → Before w r line → (let o = verb_step w number line in LinesFrom (ahead r line o.1.answer) r.conn_at o.1.events → Agrees (with_branches o.1.events o.0) (after_group r line o.1.events o.1.answer) → LinesFit (ahead r line o.1.answer) o.1.events)
fits w r number (Verb.AtLink l (LinkVerb.Up wanted)) moving b lines later = ups_fit w r wanted b.agrees (λ link node found at. came_up w r l wanted b link node found at) l (up_tells w r b.agrees l b.ranged wanted) lines later
fits w r number (Verb.AtLink l (LinkVerb.Down wanted)) moving b lines later = down_fits w l wanted r
fits w r number (Verb.AtLink l (LinkVerb.Pump frames)) moving b lines later = pump_fits r r l frames (pump_step w l frames).1.events (pumped w r l frames b).tells
fits w r number other moving b lines later = cc

kept : (w : PlainWorld) (r : Chronicle) (number : ℕ) (line : Verb) → is_moving line ≡ true → Before w r line
    → (let o = verb_step w number line in LinesFrom (ahead r line o.1.answer) r.conn_at o.1.events → Agrees (with_branches o.1.events o.0) (after_group r line o.1.events o.1.answer) → AllKnown (with_branches o.1.events o.0) (after_group r line o.1.events o.1.answer)
    → AllKept (with_branches o.1.events o.0) (after_group r line o.1.events o.1.answer))
kept w r number (Verb.AtLink l (LinkVerb.Up wanted)) moving b lines later known = ups_kept w r wanted b.agrees b.handed.freed.made b.handed.kept (λ link node found at. came_up w r l wanted b link node found at) l (up_tells w r b.agrees l b.ranged wanted) lines later
kept w r number (Verb.AtLink l (LinkVerb.Down wanted)) moving b lines later known = (let o = verb_step w number (Verb.AtLink l (LinkVerb.Down wanted)) in down_kept stays w (with_branches o.1.events o.0) r l wanted b.agrees (noted_of w r b.handed) b.handed.free b.handed.known b.handed.freed.made b.handed.kept lines refl later)
kept w r number (Verb.AtLink l (LinkVerb.Pump frames)) moving b lines later known = pump_keeps w r l frames b.agrees b.handed.known (pump_step w l frames) (pumped w r l frames b)
kept w r number other moving b lines later known = cc

pub moves : Moves
moves = record {
  hands = hands;
  known = known;
  kept = kept;
  awaits = awaits;
  fits = fits;
}
