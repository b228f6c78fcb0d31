-- each line of a `down`, where its link takes a vBucket over, stands where it may
use Rattle.std.specs.Prelude.{◌≡◌, ◌∷◌, ◌++◌, ◌&&◌, ◌==◌}
use Rattle.transcript_law.proofs.Words.{ℕ, Bool, true, false, List, [], refl, ap, sym, ◌∙◌, subst, and_parts, Option, Some, Chronicle, Dial, EndReason, Event, Frame, PlainWorld, StreamName, after_lines, link_number}
use Rattle.transcript_law.proofs.{balance.Levels.{Has}, lines.Takeovers.{lines_takeovers}, links.Downing.{EndCame, EndsSo, Line}, noted.Ending.{EndsAs, coming_down}}
use Rattle.transcript_law.proofs.verbs.{Pumping.{hands_behind}, StopTellings.{AreDialed, stop_ends}, Tellings.{later_of}, Untaken.{is_beside, lines_beside, of_end}}
use Rattle.transcript_law.proofs.Words.{eq-eqb, eqb-true}
use Rattle.transcript_law.specs.{LinesTold.{TakeoverKnown, is_dial_at}, TakeoverLines.{HasEnded, IsTakeover, TakeoverFrom, TakeoverLine}, Tellings.{are_all, is_of_end}}
use Rattle.node_world.specs.Power.{disk_end, down_lines, is_this_number}

-- what ends with a node is beside
ends_beside : (r : Chronicle) (n : ℕ) (lines : List Event) → are_all (is_of_end r n) lines ≡ true → are_all is_beside lines ≡ true
ends_beside r n [] a = refl
ends_beside r n (line ∷ lines) a = let p = and_parts (is_of_end r n line) (are_all (is_of_end r n) lines) a in λ i. of_end r n line p.0 i && ends_beside r n lines p.1 i

module _ (line : Line) (dial_is : line.r.dial_of line.link.consumer.dialed.link ≡ Some (record { producer = line.link.server.desk.node; node = line.link.consumer.dialed.node; vb = line.link.consumer.dialed.vb })) where
  open line use {r, link}
  open line.link.consumer.dialed use {node as n, vb as v, link as l}

  abbrev own : Dial
  own = record { producer = link.server.desk.node; node = n; vb = v }

  module _ (events : List Event) (dials : (after_lines r events).dial_of ≡ r.dial_of) (beside : are_all is_beside events ≡ true) where
    abbrev told : Chronicle
    told = after_lines r events

    pub each_alone : TakeoverFrom r events
    each_alone = lines_beside r events beside

    pub each_behind : (more : List Event) → TakeoverFrom told more → TakeoverFrom r (events ++ more)
    each_behind more t = hands_behind r events more each_alone t

    -- the link's end
    module _ (noted : (r.takeover_of l).dialed ≡ link.consumer.dialed.takeover) (comes : (f : Frame) → Has f line.all → Has f (coming_down link)) (ends : EndsAs (r.takeover_of l) link) where
      has_ended : (turned : Bool) → EndCame line turned events → (dial : Dial) → told.dial_of l ≡ Some dial → HasEnded told l dial
      has_ended turned x dial is =
          let same : own ≡ dial = (let z : Some own ≡ Some dial = sym dial_is ∙ ap (λ (t : ℕ → Option Dial). t l) (sym dials) ∙ is in cc) in
          record { stream = x.stream; granted = subst (λ (d : Dial). told.stream_of (StreamName.Link l) d.vb ≡ Some x.stream) same x.told; over = x.over }

      turned_is : (turned : Bool) → EndCame line turned events → (dial : Dial) → IsTakeover told l dial → (told.takeover_of l).turned ≡ turned
      turned_is turned x dial t =
          let known : told.takeover_of l ≡ r.takeover_of l = ap (λ (k : ℕ → TakeoverKnown). k l) (lines_takeovers r events) in
          ap (λ (k : TakeoverKnown). k.turned) known ∙ ends (sym noted ∙ ap (λ (k : TakeoverKnown). k.dialed) (sym known) ∙ t.1) turned x.opaque x.at_vb (comes _ x.frame)

      ended_line : (why : EndReason) → EndsSo line why events → TakeoverLine told (Event.Ended l why)
      ended_line EndReason.Done x = λ dial t. (has_ended false x dial t.0, turned_is false x dial t)
      ended_line EndReason.State x = λ dial t. (has_ended true x dial t.0, turned_is true x dial t)
      ended_line other x = λ dial t. tt

      pub each_over : (why : EndReason) → EndsSo line why events → TakeoverFrom r (events ++ Event.Ended l why ∷ [])
      each_over why x = each_behind (Event.Ended l why ∷ []) (ended_line why x, tt)

    -- a record that could not be written down
    pub each_closed : TakeoverFrom r (events ++ disk_end l)
    each_closed = each_behind (disk_end l) ((λ dial t. tt), tt)

    pub each_failed : TakeoverFrom r (events ++ Event.CallFailed n ∷ disk_end l)
    each_failed = each_behind (Event.CallFailed n ∷ disk_end l) (tt, ((λ dial t. tt), tt))

    pub each_stopped : (w : PlainWorld) → AreDialed r w.links → TakeoverFrom r (events ++ Event.NodeStopped n ∷ down_lines n (Some l) w)
    each_stopped w dialed = each_behind (Event.NodeStopped n ∷ down_lines n (Some l) w) (
      tt,
      lines_beside _ (down_lines n (Some l) w) (ends_beside r n (down_lines n (Some l) w)
          (stop_ends r n (Some l) w dialed (λ k q. subst (λ o. is_dial_at n o ≡ true) (sym (ap r.dial_of (eqb-true k l q) ∙ dial_is)) (later_of (link.server.desk.node == n) (n == n) (eq-eqb n n refl))))),
    )
