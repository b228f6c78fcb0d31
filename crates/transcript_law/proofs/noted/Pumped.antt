-- what a `pump` asks for of links is known of them
use Rattle.std.specs.Prelude.{◌≡◌, ◌≢◌, ◌∷◌}
use Rattle.std.specs.List.{All}
use Rattle.takeover.specs.declared.give_up.GiveStep.TheVariants.{End}
use Rattle.transcript_law.proofs.Words.{List, [], subst, Some, All-cons, All-head, All-nil, All-tail, Chronicle, PlainLink, PlainStream, PlainWorld, link_number}
use Rattle.transcript_law.proofs.links.PumpWorlds.{AllKnown as PumpKnown, OwnedBy}
use Rattle.transcript_law.proofs.noted.{Joint.{Handed}, Known.{ObeyedIf, ObeyedOn}}
use Rattle.transcript_law.specs.LinesTold.{TakeoverKnown}

-- a stream whose last state was answered is of a consumer that told of its role
owned_on : (t : TakeoverKnown) (link : PlainLink) (ss : List PlainStream) → All (ObeyedOn t link) ss → All (OwnedBy t) ss
owned_on t link [] all = All-nil (OwnedBy t)
owned_on t link (s ∷ ss) all = All-cons (OwnedBy t) s ss (λ e. subst (λ g. ObeyedIf t link g link.consumer.taking.last) e (All-head (ObeyedOn t link) s ss all)) (owned_on t link ss (All-tail (ObeyedOn t link) s ss all))

pub pump_known : (w : PlainWorld) (r : Chronicle) → Handed w r → PumpKnown w r
pump_known w r h link i = let x = h.known link i in record { noted = x.noted; owned = owned_on (r.takeover_of (link_number link)) link link.server.streams x.obeyed; kept = h.kept link i }
