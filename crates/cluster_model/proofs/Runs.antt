-- what holds after every run
use Rattle.std.proofs.Common.{◌≡◌, ℕ, ◌<◌, Bool, true, false, cond, List, [], ◌∷◌, ◌++◌, eqb, refl, ap, sym, ◌∙◌, subst, inl, ⊎_elim, ◌≤◌, arith}
use Rattle.std.specs.Prelude.{Option, Some, None}
use Rattle.vb_types.specs.Images.{Picture, image_of}
use Rattle.vb_types.specs.declared.change.Change.{Change}
use Rattle.vb_types.specs.Histories.{upto, Rises}
use Rattle.branch_model.specs.Histories.{HasPrepares}
use Rattle.branch_model.specs.Trees.{hist, Grows, Shared, Branch}
use Rattle.branch_model.specs.Journals.{batches, place_of, end_of, items_of, complete_points, image_at, IsPoint}
use Rattle.cluster_model.specs.Clusters.{IsBranch, Ground, Member, Cluster, ground, Move, happens, above, member_reach, fresh, blank, loaded, Forks, May, MayAll, run, start, root, Settled, Kin, HasAll, Stands, Fits, Told, Kept, SoundCluster}
use Rattle.branch_model.specs.Journals.{found}
use Rattle.branch_model.specs.Snapshots.{IsComplete, Follows}
use Rattle.branch_model.specs.Requests.{rule, effective_se}
use Rattle.vb_types.specs.declared.stream.StreamAsk.{StreamAsk}
use Rattle.vb_types.specs.declared.stream.Verdict.TheVariants.{Continue, Roll}
use Rattle.branch_model.specs.Logs.{Ancestry, AncestryBy, entry_for}
use Rattle.vb_types.specs.declared.role.LogEntry.{LogEntry}
use Rattle.branch_model.proofs.Lists.{upto_none}
use Rattle.branch_model.proofs.Following.{place, follows_complete, follows_start}
use Rattle.cluster_model.proofs.Having.{all_none, all_image}
use Rattle.branch_model.proofs.Branches.{hist_rises}
use Rattle.branch_model.proofs.Ruling.{named_shared, continue_shared, roll_shared}
use Rattle.branch_model.proofs.Journaling.{image_at_point, items_image, all_stay}
use Rattle.cluster_model.proofs.Carrying.{at_le, kin_shared, traces_map, Extends, whole_reach}
use Rattle.cluster_model.proofs.Fitting.{fits_self, stays}
use Rattle.cluster_model.proofs.Keeping.{cut_keeps, yield_keeps, grant_keeps, send_keeps, adopt_keeps, all_rise}
use Rattle.cluster_model.proofs.Receiving.{receive_keeps, marker_keeps}
use Rattle.cluster_model.proofs.Making.{own_keeps, own_goes_on}
use Rattle.cluster_model.proofs.Forking.{promote_keeps, new_goes_on}
use Rattle.cluster_model.proofs.Rising.{cede_keeps, rise_keeps}
use Rattle.cluster_model.proofs.Writing.{take_keeps, append_keeps, break_keeps, roll_keeps, crash_keeps}
use Rattle.vb_types.specs.declared.journal.Record.{Record}

pub keeps : (top : ℕ) (w : Cluster) (e : Move) → SoundCluster top w → May top w e → SoundCluster top (happens w e)
keeps top w (Move.Own k c) s m = own_keeps top w k c s m
keeps top w (Move.Grant k p) s m = grant_keeps top w k p s m
keeps top w (Move.Send k p items end) s m = send_keeps top w k p items end s m
keeps top w (Move.Adopt k) s m = adopt_keeps top w k s m
keeps top w (Move.Marker k) s m = marker_keeps top w k s m
keeps top w (Move.Receive k) s m = receive_keeps top w k s m
keeps top w (Move.Cut k) s m = cut_keeps top w k s m
keeps top w (Move.Take k position cas items) s m = take_keeps top w k position cas items s m
keeps top w (Move.Append k r) s m = append_keeps top w k r s m
keeps top w (Move.Roll k to) s m = roll_keeps top w k to s m
keeps top w (Move.Break k r) s m = break_keeps top w k r s m
keeps top w (Move.Crash k stood) s m = crash_keeps top w k stood s m
keeps top w (Move.Promote k id) s m = promote_keeps top w k id s m
keeps top w (Move.Yield k) s m = yield_keeps top w k s m
keeps top w (Move.Cede k p) s m = cede_keeps top w k p s m
keeps top w (Move.Rise k) s m = rise_keeps top w k s m

pub run_keeps : (top : ℕ) (w : Cluster) (es : List Move) → SoundCluster top w → MayAll top w es → SoundCluster top (run w es)
run_keeps top w [] s m = s
run_keeps top w (e ∷ es) s m = run_keeps top (happens w e) es (keeps top w e s m.0) m.1

-- what is settled stays, with its changes
pub extends_by : (top : ℕ) (w : Cluster) (e : Move) → SoundCluster top w → May top w e → Extends top (ground w) (ground (happens w e))
extends_by top w (Move.Own k c) s m = own_goes_on top w k c s m
extends_by top w (Move.Grant k p) s m = stays top (ground w) (all_rise top w s)
extends_by top w (Move.Send k p items end) s m = stays top (ground w) (all_rise top w s)
extends_by top w (Move.Adopt k) s m = stays top (ground w) (all_rise top w s)
extends_by top w (Move.Marker k) s m = stays top (ground w) (all_rise top w s)
extends_by top w (Move.Receive k) s m = stays top (ground w) (all_rise top w s)
extends_by top w (Move.Cut k) s m = stays top (ground w) (all_rise top w s)
extends_by top w (Move.Take k position cas items) s m = stays top (ground w) (all_rise top w s)
extends_by top w (Move.Append k r) s m = stays top (ground w) (all_rise top w s)
extends_by top w (Move.Roll k to) s m = stays top (ground w) (all_rise top w s)
extends_by top w (Move.Break k r) s m = stays top (ground w) (all_rise top w s)
extends_by top w (Move.Crash k stood) s m = stays top (ground w) (all_rise top w s)
extends_by top w (Move.Promote k id) s m = new_goes_on top w k id s m
extends_by top w (Move.Yield k) s m = stays top (ground w) (all_rise top w s)
extends_by top w (Move.Cede k p) s m = stays top (ground w) (all_rise top w s)
extends_by top w (Move.Rise k) s m = stays top (ground w) (all_rise top w s)

-- the start

start_hist : (u : ℕ) (q : Bool) → cond q (◌++◌ {A = Change} [] []) [] ≡ []
start_hist u true = refl
start_hist u false = refl

pub start_stands : (top : ℕ) (g : Ground) → Grows top g.tree → Settled g 0 0 → Stands g fresh
start_stands top g gr st =
    let none : upto (hist g.tree 0) 0 ≡ [] = upto_none 0 top 0 (hist g.tree 0) (hist_rises top g.tree 0 gr) (omega arith) in
    record {
      rises = omega arith;
      follows = subst (λ (p : Picture). Follows (hist g.tree 0) (place 0 0 0) [] p) (ap image_of none) (follows_start (hist g.tree 0) 0 0 (omega arith));
      settled = st;
      ancestry = record { short = omega arith; distinct = tt; falls = tt; at_forks = tt; traces = tt };
      comes = tt;
      linked = tt;
      named = subst HasPrepares (sym (ap (λ x. x ++ []) none)) (λ c number doc deleted i e. absurd i);
      forked = all_none 0 (hist g.tree 0) [] (omega arith);
      points = λ p i. ⊎_elim (λ e. (omega arith, subst (HasAll (hist g.tree 0) []) (sym e) (all_none 0 (hist g.tree 0) [] (omega arith)))) (λ n. absurd n) i;
    }

start_kept : (top : ℕ) (g : Ground) → Stands g fresh → Kept g fresh blank
start_kept top g t =
    let f : Fits g 0 [] (place 0 0 0) (0 ∷ []) (place 0 0 0) = fits_self g fresh t (λ e. inl refl) in
    record {
      book = record { covered = tt; ends = refl; spot = f; loads = t; among = λ x i. i; whole = λ e. inl refl };
      late = λ r q. let z : None ≡ Some r = q in cc;
      batch = λ b q. let z : None ≡ Some b = q in cc;
      stood = λ q i. absurd i;
      front = λ q i. absurd i;
    }

root_found : (u : ℕ) (b : Branch) (q : Bool) → cond q (Some root) None ≡ Some b → b.fork ≤ 0
root_found u b true e = let z : root ≡ b = cc in let y : 0 ≡ b.fork = ap (λ (r : Branch). r.fork) z in omega arith
root_found u b false e = let z : None ≡ Some b = e in cc

pub start_sound : (top : ℕ) → SoundCluster top start
start_sound top =
    let gr : Grows top (root ∷ []) = (omega arith, tt) in
    let st : Settled (ground start) 0 0 = ((root, refl), omega arith) in
    let t = start_stands top (ground start) gr st in
    record {
      grows = gr;
      differ = (tt, tt);
      forks = ((λ p e. let z : None ≡ Some p = e in cc), tt);
      root = st;
      tops = λ u. subst (λ h. Rises 0 0 h) (sym (start_hist u (eqb 0 u))) (omega arith);
      floors = λ u b e. root_found u b (eqb 0 u) e;
      prepared = λ u. subst HasPrepares (sym (start_hist u (eqb 0 u))) (λ c number doc deleted i e. absurd i);
      stands = λ k. t;
      kept = λ k. start_kept top (ground start) t;
      leads = λ k a. let z : false ≡ true = a in cc;
      alone = λ j k u a b. ⊎_elim (λ x. let z : false ≡ true = x.0 in cc) (λ r. absurd r.1) a;
      given = λ k u n x. absurd x;
    }

-- what a sound cluster gives

pub shared_ancestry : (g : Ground) (log : List LogEntry) (u n : ℕ) → AncestryBy (Kin g) g.tree log u n → Ancestry g.tree log u n
shared_ancestry g log u n a = record { short = a.short; distinct = a.distinct; falls = a.falls; at_forks = a.at_forks; traces = traces_map (Kin g) (Shared g.tree) (kin_shared g) log u n a.traces }

module _ (top : ℕ) (w : Cluster) (s : SoundCluster top w) where
  -- a node whose position is complete shows its branch's documents at that seqno
  pub shows : (k : ℕ) → IsComplete (w.nodes k).position → image_of (w.nodes k).held ≡ image_of (upto (hist w.tree (w.nodes k).br) (w.nodes k).position.at)
  shows k e =
      let n = w.nodes k in
      follows_complete top (hist w.tree n.br) (above n.held n.position.ss) n.position.ss n.position.se n.position.at (image_of n.held) (hist_rises top w.tree n.br s.grows) (s.stands k).follows e
      ∙ ap (λ x. image_of (upto (hist w.tree n.br) x)) (sym e)

  -- the log tells where the branch comes from
  pub tells : (k : ℕ) → Ancestry w.tree (w.nodes k).log (w.nodes k).br (member_reach (w.nodes k))
  tells k = shared_ancestry (ground w) (w.nodes k).log (w.nodes k).br (member_reach (w.nodes k)) (s.stands k).ancestry

  -- whom the log names for what the node has shares with its branch
  pub named : (k : ℕ) (e : LogEntry) → entry_for (w.nodes k).position.at (w.nodes k).log ≡ Some e → Shared w.tree e.uuid (w.nodes k).br (w.nodes k).position.at
  named k e q = let n = w.nodes k in
      named_shared w.tree n.log n.br (member_reach n) n.position.at e (tells k).traces (at_le n (s.stands k).follows.within) q

  producer_ancestry : (p : ℕ) → (w.nodes p).active ≡ true → Ancestry w.tree (w.nodes p).log (w.nodes p).br (w.nodes p).position.at
  producer_ancestry p a =
      let n = w.nodes p in
      let l = s.leads p a in
      subst (λ x. Ancestry w.tree n.log n.br x) (whole_reach n.position (sym l.se_at)) (tells p)

  -- a request that an active node continues shares with its branch up to the effective end
  pub continues : (p : ℕ) (ask : StreamAsk) → (w.nodes p).active ≡ true → 0 < ask.start → rule (w.nodes p).log (w.nodes p).position.at ask ≡ Continue → Shared w.tree ask.uuid (w.nodes p).br (effective_se ask.start ask.ss ask.se)
  continues p ask a l e = continue_shared w.tree (w.nodes p).log (w.nodes p).br (w.nodes p).position.at ask (producer_ancestry p a) (s.leads p a).front l e

  -- the point that it sends another one back to is shared
  pub rolls : (p : ℕ) (ask : StreamAsk) (r : ℕ) → (w.nodes p).active ≡ true → 0 < r → rule (w.nodes p).log (w.nodes p).position.at ask ≡ Roll r → Shared w.tree ask.uuid (w.nodes p).br r
  rolls p ask r a l e = roll_shared w.tree (w.nodes p).log (w.nodes p).br (w.nodes p).position.at r ask (producer_ancestry p a) (s.leads p a).front l e

  forked_below : (u : ℕ) (bs : List Branch) (b : Branch) → Forks (ground w) bs → IsBranch b bs → b.parent ≡ Some u → Settled (ground w) u b.fork
  forked_below u [] b f i e = absurd i
  forked_below u (x ∷ older) b f i e = ⊎_elim
      (λ q. subst (λ (y : Branch). Settled (ground w) u y.fork) (sym q) (f.0 u (ap (λ (y : Branch). y.parent) (sym q) ∙ e)))
      (λ q. forked_below u older b f.1 q e) i

  -- nobody writes on a branch at or below a fork that was made from it
  pub forks_stay : (u : ℕ) (b : Branch) → IsBranch b w.tree → b.parent ≡ Some u → Settled (ground w) u b.fork
  forks_stay u b i e = forked_below u w.tree b s.forks i e

  -- one that may still grow has all forks that were made from it at or below its last seqno
  pub forks_below : (k : ℕ) (b : Branch) → (w.nodes k).active ≡ true → IsBranch b w.tree → b.parent ≡ Some (w.nodes k).br → b.fork ≤ (w.nodes k).position.at
  forks_below k b a i e = let q : b.fork ≤ w.tips (w.nodes k).br = (forks_stay (w.nodes k).br b i e).1 in let t : (w.nodes k).position.at ≡ w.tips (w.nodes k).br = (s.leads k a).tip in omega arith

  -- at each complete point the journal tells the image of the node's branch
  pub point_shown : (k p : ℕ) → IsPoint p (complete_points (w.disks k).book) → image_at (w.disks k).book p ≡ image_of (upto (hist w.tree (w.nodes k).br) p)
  point_shown k p i =
      let n = w.nodes k in
      let d = (s.kept k).book in
      image_at_point n.position.at n.held (w.disks k).book p (s.stands k).rises d.covered i
      ∙ all_image top (hist w.tree n.br) n.held p (hist_rises top w.tree n.br s.grows) ((s.stands k).points p (d.among p i)).1

  -- and the image of what was held, at the position that it tells
  place_image : (g : Ground) (n : Member) (js : List Record) → Stands g n → Told g n.br n.held n.position n.points js → image_at js (place_of js).at ≡ image_of (upto n.held (place_of js).at)
  place_image g n js t d =
      let y : (place_of js).at ≡ end_of (batches js) = d.ends in
      ap (λ bs. image_of (items_of bs)) (all_stay n.held (place_of js).at (batches js) d.covered (omega arith))
      ∙ items_image n.position.at n.held (batches js) t.rises d.covered ∙ ap (λ x. image_of (upto n.held x)) (sym y)

  pub load_shown : (k : ℕ) (stood : Bool) → image_at (found (w.disks k).book (w.disks k).late stood) (place_of (found (w.disks k).book (w.disks k).late stood)).at
      ≡ image_of (loaded (w.nodes k).br (w.nodes k).held (found (w.disks k).book (w.disks k).late stood)).held
  load_shown k stood = at_found (w.disks k).late refl stood
    where
      at_found : (o : Option Record) → (w.disks k).late ≡ o → (b : Bool) → image_at (found (w.disks k).book o b) (place_of (found (w.disks k).book o b)).at ≡ image_of (upto (w.nodes k).held (place_of (found (w.disks k).book o b)).at)
      at_found None e b = place_image (ground w) (w.nodes k) (w.disks k).book (s.stands k) (s.kept k).book
      at_found (Some r) e true = place_image (ground w) (w.nodes k) (r ∷ (w.disks k).book) (s.stands k) ((s.kept k).late r e)
      at_found (Some r) e false = place_image (ground w) (w.nodes k) (w.disks k).book (s.stands k) (s.kept k).book
