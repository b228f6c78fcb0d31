-- all that is known of links that may take a vBucket over, between lines of a script
use Rattle.std.specs.Prelude.{◌≡◌, ◌∷◌}
use Rattle.std.specs.List.{All}
use Rattle.transcript_law.proofs.Words.{ℕ, List, [], refl, ⊎_elim, All-cons, All-head, All-nil, All-tail, Chronicle, PlainLink, PlainStream, PlainWorld, StreamName, empty_chronicle, empty_world, link_number, producer_node}
use Rattle.transcript_law.proofs.invariant.{Agreement.{IsLink}, Noted.{AllFree, AllKept, AllNoted, KeptFor, KeptLink}}
use Rattle.transcript_law.proofs.noted.{Ending.{AllEnding, ending_none}, Freed.{Freed, freed_less, quiet}, Known.{AllKnown}}
use Rattle.transcript_law.specs.Chronicles.{at_line}

-- what lines tell of each link; that nobody writes on a branch for which active was stated; that one whose rest is sent is its writer yet; and why the ends of streams on their way are so
pub record Handed (w : PlainWorld) (r : Chronicle) : Type 0 where
  pub known : AllKnown w r
  pub freed : Freed r
  pub free : AllFree w r
  pub kept : AllKept w r
  pub ends : AllEnding w r

pub noted_of : (w : PlainWorld) (r : Chronicle) → Handed w r → AllNoted w r
noted_of w r h = λ link i. (h.known link i).noted

-- the number of a line changes nothing of it
kept_at : (r : Chronicle) (number : ℕ) (link : PlainLink) (ss : List PlainStream)
    → All (KeptFor r (producer_node link) link.consumer.dialed.vb (r.stream_of (StreamName.Link (link_number link)) link.consumer.dialed.vb)) ss
    → All (KeptFor (at_line r number) (producer_node link) link.consumer.dialed.vb ((at_line r number).stream_of (StreamName.Link (link_number link)) link.consumer.dialed.vb)) ss
kept_at r number link [] all = All-nil (KeptFor (at_line r number) (producer_node link) link.consumer.dialed.vb ((at_line r number).stream_of (StreamName.Link (link_number link)) link.consumer.dialed.vb))
kept_at r number link (s ∷ ss) all =
    let Old = KeptFor r (producer_node link) link.consumer.dialed.vb (r.stream_of (StreamName.Link (link_number link)) link.consumer.dialed.vb) in
    All-cons (KeptFor (at_line r number) (producer_node link) link.consumer.dialed.vb ((at_line r number).stream_of (StreamName.Link (link_number link)) link.consumer.dialed.vb)) s ss
    (λ g told gives goes. let x = All-head Old s ss all g told gives goes in record { made_or_took = x.made_or_took; on_branch = x.on_branch }) (kept_at r number link ss (All-tail Old s ss all))

pub handed_at : (w : PlainWorld) (r : Chronicle) (number : ℕ) → Handed w r → Handed w (at_line r number)
handed_at w r number h = record {
  known = h.known;
  freed = freed_less r (at_line r number) (quiet r (at_line r number) refl refl refl refl refl refl) h.freed;
  free = λ link i g stated stream owns. (let x = h.free link i g stated stream owns in record { free = x.free; is_told = x.is_told; named = x.named });
  kept = λ link i. kept_at r number link link.server.streams (h.kept link i);
  ends = h.ends;
}

-- so it is before the first line
pub handed_none : Handed empty_world empty_chronicle
handed_none = record {
  known = λ link i. absurd i;
  freed = record { made = λ u n v e. cc; free = λ l g c. (let z = c.dialed in cc); apart = λ k l f g c d e. (let z = c.dialed in cc) };
  free = λ link i. absurd i;
  kept = λ link i. absurd i;
  ends = ending_none;
}
