-- the marker of what a journal has for a stream up to a front is lawful
use Rattle.std.specs.Prelude.{◌≡◌, ◌<◌, ◌≤◌, ◌&&◌, ◌||◌, if◌then◌else◌}
use Rattle.transcript_law.proofs.Words.{ℕ, Bool, true, false, not, List, refl, ap, sym, ◌∙◌, subst, arith, inr, Option, Some, None, Begun, Change, Chronicle, Event, Granted, IsIn, IsMarker, LawfulMark, Snapshot, Covers, hist, known_history, meant_end, stream_branch}
use Rattle.transcript_law.proofs.indexers.Marked.{reaches_for}
use Rattle.transcript_law.proofs.invariant.Tables.{is_dialed}
use Rattle.transcript_law.specs.{ClientStreams.{ClientKnown, ClientStream, stream_view, vb_in_header, view}, Fronts.{FrontsAreSent, IsFedNext, IsFound, IsFront, IsSentTo, IsShownNext, begun_from, branch_history, client_reach, client_start}, LawfulClients.{GoesOnAt, IsNextMarker, IsPut, LawfulClientMark, NoneWithin, ReachesMeant, StartsAt, sent_in, starts_below}, Lawfulness.{reach_after, stream_saved}, StreamLaws.{FROM_DISK, IsFromSource, IsUnreplaced, fed_saved}}
use Rattle.mcbp_dcp.specs.declared.message.DcpMsg.TheVariants as msg
use Rattle.vb_events.specs.declared.event.StreamName.TheVariants as name
use Rattle.vb_types.specs.Histories.{plain}

-- where it comes from
pub from_journal : (end stop saved : ℕ) → end ≤ stop → stop ≤ saved → IsFromSource FROM_DISK end saved
from_journal end stop saved low counts = record { source = inr refl; below = λ e. omega (arith, low, counts) }

-- ---- of a link

module _ (r : Chronicle) (l n v start end : ℕ) (g : Granted) (s : Snapshot) (f : IsFront r n v end) (found : IsFound (branch_history r n v) (r.held n v) g.place end true s) (x : IsFedNext r l n v start end g) where
  same : branch_history r n v ≡ hist r.tree (stream_branch g)
  same = ap (known_history r.tree) x.on_branch

  pub link_marker : IsMarker r.tree g start s.end
  link_marker = record {
    opens = x.opens;
    starts = x.starts;
    behind = x.whole;
    reaches = let at : s.end ≡ end = found.full refl in let low : reach_after g.last g ≤ end = x.reaches in omega (arith, at, low);
    whole = (s.items, subst (λ h. Covers s.items h g.place s.end) same found.covers);
  }

  saved_there : stream_saved r (name.Link l) ≡ (r.disk_at n v).saved
  saved_there = ap (fed_saved r) x.dialed

  pub link_mark : LawfulMark r (name.Link l) start s.end FROM_DISK
  link_mark = (
    g,
    (v, is_dialed (r.dial_of l) n x.node v x.dialed, x.granted),
    link_marker,
    subst (IsFromSource FROM_DISK s.end) (sym saved_there) (from_journal s.end end (r.disk_at n v).saved found.within f.saved),
  )

-- ---- of a client

goes_on : (b : Bool) (h : List Change) (place start end : ℕ) → start ≡ place → place < end → GoesOnAt b h place start end
goes_on true h place start end same up = same
goes_on false h place start end same up = (omega (arith, same), omega (arith, same, up), λ x i above within. absurd (omega (arith, same, above, within)))

sent_plain : (b : Bool) (low : Bool) (c : Change) → (if b && not (true || low) then c else plain c) ≡ plain c
sent_plain true low c = refl
sent_plain false low c = refl

module _ (r : Chronicle) (n v start end : ℕ) (g : ClientStream) (s : Snapshot) (found : IsFound (branch_history r n v) (r.held n v) g.place end g.sync s) (x : IsShownNext r n v start end g) where
  abbrev h : List Change
  h = stream_view r.tree g

  view_is : view g.sync (branch_history r n v) ≡ h
  view_is = ap (λ o. view g.sync (known_history r.tree o)) x.on_branch

  covers : Covers s.items h g.place s.end
  covers = subst (λ k. Covers s.items k g.place s.end) view_is found.covers

  between : NoneWithin h s.end end
  between = subst (λ k. NoneWithin k s.end end) view_is found.between

  starts : (last : Option Begun) → start ≡ client_start last g → StartsAt last r.tree g start s.end
  starts None e = e
  starts (Some b) e = goes_on g.sync h g.place start s.end e covers.goes_on

  reaches : (last : Option Begun) → client_reach last g ≤ end → ReachesMeant last r.tree g s.end
  reaches None low = reaches_for g.sync h (meant_end g.ask) s.end end found.full low between
  reaches (Some b) low = tt

  pub client_marker : IsNextMarker r.tree g start s.end
  client_marker = record {
    opens = x.opens;
    stays = x.stays;
    goes_on = x.goes_on;
    behind = x.whole;
    starts = starts g.last x.starts;
    reaches = reaches g.last x.reaches;
    whole = (s.items, covers);
  }

  pub client_item : (y : Change) → IsIn y s.items → IsSentTo r n v g s.end y
  client_item y i =
      let (c, there, e) = found.sent y i in (
        (c, there, e ∙ sym {a = sent_in g (begun_from r g s.end) c} (sent_plain g.sync (starts_below g (begun_from r g s.end)) c)),
        subst (λ k. IsUnreplaced k s.end y) view_is (found.unreplaced y i),
      )

client_mark : (r : Chronicle) (known : ClientKnown) (n c start end : ℕ) (s : Snapshot) (behind : List Event) (put : IsPut n c known (msg.SnapshotMarker start s.end FROM_DISK) behind)
    → (let v = vb_in_header put.bytes in IsFront r n v end → IsFound (branch_history r n v) (r.held n v) put.stream.place end put.stream.sync s → IsShownNext r n v start end put.stream → LawfulClientMark r known n c start s.end FROM_DISK behind)
client_mark r known n c start end s behind put f found x =
    let v : ℕ = vb_in_header put.bytes in record {
      put = put;
      source = from_journal s.end end (r.disk_at n v).saved found.within f.saved;
      marker = client_marker r n v start end put.stream s found x;
    }

pub fronts_sent : FrontsAreSent
fronts_sent = record {
  link = λ r l n v start end g s f found x. link_mark r l n v start end g s f found x;
  client = client_mark;
  items = λ r n v start end g s found x. client_item r n v start end g s found x;
}
