-- which streams a vBucket may have, and from where on they have cursors
use Rattle.std.proofs.Common.{◌≡◌, ℕ, suc, ◌≤◌, length, Bool, true, false, cond, List, [], ◌∷◌, ◌++◌, map, refl, ap, sym, subst, ◌∙◌, arith}
use Rattle.std.specs.Prelude.{◌==◌, not, if◌then◌else◌, Option, Some, None}
use Rattle.std.specs.Option.{option_map}
use Rattle.std.proofs.lemmas.Bool.Decides.{nat_tests}
use Rattle.std.proofs.lemmas.List.{length-map}
use Rattle.vb_types.specs.declared.role.Role.{Role}
use Rattle.vb_types.specs.declared.role.Role.TheVariants as roles
use Rattle.vb_calls.specs.declared.stream.Stream.{Stream}
use Rattle.vb_calls.specs.Following.{is_follower}
use Rattle.vb_calls.specs.State.{is_active}
use Rattle.vb_calls.specs.Streams.{given_cursor, moved_on, stream_at, without_cursor, without_stream}
use Rattle.vbucket.specs.Laws.{AreFed, MayFeed}
use Rattle.vbucket.proofs.Feeding.{at_changed, at_closed, at_pushed, changed, cursored, further, other_changed, own_changed, uncursored}

-- which streams a vBucket may have in a role

none_few : (r : Role) → MayFeed r []
none_few roles.Active = tt
none_few roles.Replica = refl
none_few roles.Pending = refl
none_few roles.Dead = omega arith

any_few : (r : Role) (streams : List Stream) → is_active r ≡ true → MayFeed r streams
any_few roles.Active streams e = tt
any_few roles.Replica streams e = cc
any_few roles.Pending streams e = cc
any_few roles.Dead streams e = cc

pub follows_none : (r : Role) (floor : ℕ) (streams : List Stream) → is_follower r ≡ true → AreFed r floor streams → streams ≡ []
follows_none r floor streams e f = by r e f.few
  where
    by : (r : Role) → is_follower r ≡ true → MayFeed r streams → streams ≡ []
    by roles.Active e f = cc
    by roles.Replica e f = f
    by roles.Pending e f = f
    by roles.Dead e f = cc

fewer : (id : ℕ) (streams : List Stream) → length (without_stream id streams) ≤ length streams
fewer id [] = omega arith
fewer id (s ∷ ss) = by (s.id == id) (fewer id ss)
  where
    by : (b : Bool) → length (without_stream id ss) ≤ length ss → length (cond (not b) (s ∷ without_stream id ss) (without_stream id ss)) ≤ suc (length ss)
    by true l = omega arith
    by false l = omega arith

few_closed : (r : Role) (id : ℕ) (streams : List Stream) → MayFeed r streams → MayFeed r (without_stream id streams)
few_closed roles.Active id streams f = tt
few_closed roles.Replica id streams f = ap (without_stream id) f
few_closed roles.Pending id streams f = ap (without_stream id) f
few_closed roles.Dead id streams f = let l = fewer id streams in omega arith

few_mapped : (r : Role) (f : Stream → Stream) (streams : List Stream) → MayFeed r streams → MayFeed r (map f streams)
few_mapped roles.Active f streams few = tt
few_mapped roles.Replica f streams few = ap (map f) few
few_mapped roles.Pending f streams few = ap (map f) few
few_mapped roles.Dead f streams few = subst (λ n. n ≤ 1) (sym (length-map streams f)) few

-- none, one more, one less, and one that is changed

pub feeds_none : (r : Role) (floor : ℕ) → AreFed r floor []
feeds_none r floor = record { few = none_few r; cursors = λ id s is has. cc }

pub feeds_opened : (r : Role) (floor : ℕ) (streams : List Stream) (s : Stream) → is_active r ≡ true → AreFed r floor streams → stream_at s.id streams ≡ None → (s.cursor ≡ true → floor ≤ s.place) → AreFed r floor (streams ++ s ∷ [])
feeds_opened r floor streams s active are none reach = record {
  few = any_few r (streams ++ s ∷ []) active;
  cursors = λ q t is. by q t (q == s.id) (sym (at_pushed q s streams none) ∙ is);
}
  where
    by : (q : ℕ) (t : Stream) (b : Bool) → (if b then Some s else stream_at q streams) ≡ Some t → t.cursor ≡ true → floor ≤ t.place
    by q t true is = let k : s ≡ t = cc in subst (λ (x : Stream). x.cursor ≡ true → floor ≤ x.place) k reach
    by q t false is = are.cursors q t is

pub feeds_closed : (r : Role) (floor id : ℕ) (streams : List Stream) → AreFed r floor streams → AreFed r floor (without_stream id streams)
feeds_closed r floor id streams are = record {
  few = few_closed r id streams are.few;
  cursors = λ q t is. by q t (q == id) (sym (at_closed id q streams) ∙ is);
}
  where
    by : (q : ℕ) (t : Stream) (b : Bool) → (if b then None else stream_at q streams) ≡ Some t → t.cursor ≡ true → floor ≤ t.place
    by q t true is has = cc
    by q t false is has = are.cursors q t is has

feeds_changed : (r : Role) (floor id : ℕ) (g : Stream → Stream) (keeps : (s : Stream) → (g s).id ≡ s.id) (streams : List Stream) (s : Stream) → AreFed r floor streams → stream_at id streams ≡ Some s → floor ≤ (g s).place → AreFed r floor (map (changed id g keeps) streams)
feeds_changed r floor id g keeps streams s are is reach = record {
  few = few_mapped r (changed id g keeps) streams are.few;
  cursors = λ q t. by q t (q == id) refl;
}
  where
    by : (q : ℕ) (t : Stream) (b : Bool) → (q == id) ≡ b → stream_at q (map (changed id g keeps) streams) ≡ Some t → t.cursor ≡ true → floor ≤ t.place
    by q t true e at has =
        let k : q ≡ id = grind (arith, nat_tests, e) in
        let own : Some (g s) ≡ Some t = sym (ap (λ n. stream_at n (map (changed id g keeps) streams)) k ∙ own_changed id g keeps s streams is) ∙ at in
        let m : g s ≡ t = cc in
        subst (λ (x : Stream). floor ≤ x.place) m reach
    by q t false e at has = are.cursors q t (sym (other_changed id g keeps q streams e) ∙ at) has

pub feeds_moved : (r : Role) (floor id end : ℕ) (streams : List Stream) (s : Stream) → AreFed r floor streams → stream_at id streams ≡ Some s → floor ≤ end → AreFed r floor (map (moved_on id end) streams)
feeds_moved r floor id end streams s are is reach = feeds_changed r floor id (further end) (λ x. refl) streams s are is reach

pub feeds_given : (r : Role) (floor id : ℕ) (streams : List Stream) (s : Stream) → AreFed r floor streams → stream_at id streams ≡ Some s → floor ≤ s.place → AreFed r floor (map (given_cursor id) streams)
feeds_given r floor id streams s are is reach = feeds_changed r floor id cursored (λ x. refl) streams s are is reach

-- one that has no cursor any more needs nothing
pub feeds_dropped : (r : Role) (floor id : ℕ) (streams : List Stream) → AreFed r floor streams → AreFed r floor (map (without_cursor id) streams)
feeds_dropped r floor id streams are = record {
  few = few_mapped r (changed id uncursored (λ x. refl)) streams are.few;
  cursors = λ q t. by q t (q == id) refl (stream_at id streams) refl;
}
  where
    by : (q : ℕ) (t : Stream) (b : Bool) → (q == id) ≡ b → (o : Option Stream) → stream_at id streams ≡ o → stream_at q (map (without_cursor id) streams) ≡ Some t → t.cursor ≡ true → floor ≤ t.place
    by q t true e None f at has =
        let k : q ≡ id = grind (arith, nat_tests, e) in
        let no : None ≡ Some t = sym (ap (λ n. stream_at n (map (without_cursor id) streams)) k ∙ at_changed id uncursored (λ x. refl) id streams ∙ ap (option_map (changed id uncursored (λ x. refl))) f) ∙ at in
        cc
    by q t true e (Some s) f at has =
        let k : q ≡ id = grind (arith, nat_tests, e) in
        let own : Some (uncursored s) ≡ Some t = sym (ap (λ n. stream_at n (map (without_cursor id) streams)) k ∙ own_changed id uncursored (λ x. refl) s streams f) ∙ at in
        let m : uncursored s ≡ t = cc in
        let no : false ≡ true = ap (λ (x : Stream). x.cursor) m ∙ has in
        cc
    by q t false e o f at has = are.cursors q t (sym (other_changed id uncursored (λ x. refl) q streams e) ∙ at) has

-- a dead vBucket goes on to feed one
pub feeds_one : (r : Role) (floor id : ℕ) (streams : List Stream) (s : Stream) → AreFed r floor streams → stream_at id streams ≡ Some s → AreFed roles.Dead floor (s ∷ [])
feeds_one r floor id streams s are is = record { few = omega arith; cursors = λ q t. by t (s.id == q) }
  where
    by : (t : Stream) (b : Bool) → cond b (Some s) None ≡ Some t → t.cursor ≡ true → floor ≤ t.place
    by t true at has = let k : s ≡ t = cc in subst (λ (x : Stream). x.cursor ≡ true → floor ≤ x.place) k (are.cursors id s is) has
    by t false at has = cc
