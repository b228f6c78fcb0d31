-- whose a prepare is that is no longer outstanding, and whose outcome is on its way to the clients of its node
use Rattle.std.specs.Prelude.{◌≡◌, ◌≢◌, ◌∷◌}
use Rattle.transcript_law.proofs.Words.{ℕ, List, [], refl, ap, sym, ◌∙◌, subst, ⊎_elim, Option, Some, None, Ok, Change, Chronicle, Pend, Plain, PlainSession, PlainWorld, Sound, VbCall, Write, Frame, after_change, after_lines}
use Rattle.std.specs.Option.{option_map}
use Rattle.client_session.specs.declared.session.{Awaited.{Awaited}, Settings.{Settings}}
use Rattle.durability.specs.{Laws.{Waits}, declared.waiting.Waiting.{Waiting}}
use Rattle.mcbp_kv.specs.Requests.{request_of}
use Rattle.mcbp_kv.specs.declared.durable.Durability.{Durability}
use Rattle.mcbp_kv.specs.declared.request.KvRequest.TheVariants as request
use Rattle.node_core.specs.Clients.{PlainClient}
use Rattle.transcript_law.proofs.answers.{Awaited.{IsNotDurable, IsOutstanding, Stood, entry_of, places_none}, Committed.{made_on}, Explained.{IsPrepareOf}}
use Rattle.transcript_law.proofs.{invariant.{Holdings.{vb_of}, Owing.{IsPast, IsToldIn, IsWaitOf, Later, Owed, OwedIf, OwedIn, Owing, wait_for_on}}, verbs.Settling.{changes_told}}
use Rattle.transcript_law.specs.{Feeding.{client_in}, LinesTold.{LastLine, OwnChange, told_for}, Questions.{Question, question_of}, StreamsTold.{Asking}}

-- under its number none of these connections waits later; and one that awaits it asked for it, in the group in which it was told
pub record ConnsOwed (line : LastLine) (n : ℕ) (made : List OwnChange) (clients : ℕ → Option PlainClient) (asked : ℕ → Asking) (v : ℕ) (x : Waiting) (p : Pend) : Type 0 where
  pub some : x.waiter ≢ 0
  pub past : (c : ℕ) (client : PlainClient) → clients c ≡ Some client → IsPast client.session x.waiter
  pub own : (c : ℕ) (client : PlainClient) (a : Awaited) (q : Question) → clients c ≡ Some client → client.session.awaited ≡ Some a → question_of (asked c) ≡ Some q → x.waiter ≡ a.waiter → IsWaitOf n (asked c).settings q.frame v x p (told_for (line.served n c) (asked c).answered made)

-- what is known of what each client of a node asked
abbrev pub asked_at : Chronicle → ℕ → ℕ → Asking
asked_at r n c = (r.clients_at n c).asking

-- so it is as long as the numbers of lines rise
abbrev pub ClaimAt : Chronicle → ℕ → (ℕ → Option PlainClient) → ℕ → Waiting → Pend → Type 0
ClaimAt r n clients v x p = (line : LastLine) → r.last ≡ Some line → ConnsOwed line n r.made clients (asked_at r n) v x p

-- each prepare that is outstanding is so
pub owed_claims : (w : PlainWorld) (r : Chronicle) (n v : ℕ) (vb : Plain) (clients : ℕ → Option PlainClient) → Owed w r → vb_of w n v ≡ Some vb → ((c : ℕ) → client_in (w.nodes n) c ≡ clients c) → (x : Waiting) (p : Pend) → x.waiter ≢ 0 → IsOutstanding vb x p → ClaimAt r n clients v x p
owed_claims w r n v vb clients owed there same x p some o line rises =
    let all : OwedIn line w r = subst (λ l. OwedIf l w r) rises owed in
    let owing : Owing (vb_of w n v) x p = subst (λ k. Owing k x p) (sym there) (some, o) in record {
      some = some;
      past = λ c client is. (all.each n c client (same c ∙ is)).past v x p owing;
      own = λ c client a q is waits asks number. (all.each n c client (same c ∙ is)).own a q v x p waits asks owing number;
    }

-- a call that is no durable write places none
pub call_claims : (w : PlainWorld) (r : Chronicle) (n v : ℕ) (vb : Plain) (made : VbCall) (clients : ℕ → Option PlainClient) → IsNotDurable made → Owed w r → vb_of w n v ≡ Some vb → ((c : ℕ) → client_in (w.nodes n) c ≡ clients c) → (x : Waiting) (p : Pend) → x.waiter ≢ 0 → Stood vb made x p → ClaimAt r n clients v x p
call_claims w r n v vb made clients none owed there same x p some stood = ⊎_elim (λ o. owed_claims w r n v vb clients owed there same x p some o) (λ placed. absurd (places_none vb made x p none placed)) stood

-- and each that waits has one
pub waiting_claims : (w : PlainWorld) (r : Chronicle) (n v : ℕ) (vb : Plain) (clients : ℕ → Option PlainClient) → Sound vb → Owed w r → vb_of w n v ≡ Some vb → ((c : ℕ) → client_in (w.nodes n) c ≡ clients c) → (x : Waiting) → x.waiter ≢ 0 → Waits x vb.waiting → (p : Pend) × ClaimAt r n clients v x p
waiting_claims w r n v vb clients sound owed there same x some i = let (p, o) = entry_of vb sound x i in (p, owed_claims w r n v vb clients owed there same x p some o)

-- where as much is known of the last line and of what clients asked
pub claim_read : (r r' : Chronicle) (n : ℕ) (clients : ℕ → Option PlainClient) → Later r r' → ((c : ℕ) → asked_at r' n c ≡ asked_at r n c) → (v : ℕ) (x : Waiting) (p : Pend) → ClaimAt r n clients v x p → ClaimAt r' n clients v x p
claim_read r r' n clients later alike v x p claim line rises =
    let k = claim line (sym later.last ∙ rises) in record {
      some = k.some;
      past = k.past;
      own = λ c client a q is waits asks number.
          subst (λ (y : Asking). IsWaitOf n y.settings q.frame v x p (told_for (line.served n c) y.answered r'.made)) (sym (alike c))
          (wait_for_on n (asked_at r n c).settings q.frame v x p (line.served n c) (asked_at r n c).answered r.made r'.made later.grows (k.own c client a q is waits (ap question_of (sym (alike c)) ∙ asks) number));
    }

-- and where the connections have the sessions that they had
pub claim_sessions : (r : Chronicle) (n : ℕ) (clients clients' : ℕ → Option PlainClient) → ((c : ℕ) (client' : PlainClient) → clients' c ≡ Some client' → (client : PlainClient) × (clients c ≡ Some client) × (client'.session ≡ client.session))
    → (v : ℕ) (x : Waiting) (p : Pend) → ClaimAt r n clients v x p → ClaimAt r n clients' v x p
claim_sessions r n clients clients' had v x p claim line rises =
    let k = claim line rises in record {
      some = k.some;
      past = λ c client' is. let (client, was, same) = had c client' is in subst (λ s. IsPast s x.waiter) (sym same) (k.past c client was);
      own = λ c client' a q is waits asks number. let (client, was, same) = had c client' is in k.own c client a q was (ap (λ (s : PlainSession). s.awaited) (sym same) ∙ waits) asks number;
    }

-- changes tell nothing of either
pub changes_last : (r : Chronicle) (n v uuid : ℕ) (cs : List Change) → (after_lines r (changes_told n v uuid cs)).last ≡ r.last
changes_last r n v uuid [] = refl
changes_last r n v uuid (c ∷ cs) = changes_last (after_change r n v uuid c) n v uuid cs

pub changes_asked : (r : Chronicle) (n v uuid : ℕ) (cs : List Change) (m : ℕ) (d : ℕ) → asked_at (after_lines r (changes_told n v uuid cs)) m d ≡ asked_at r m d
changes_asked r n v uuid [] m d = refl
changes_asked r n v uuid (c ∷ cs) m d = changes_asked (after_change r n v uuid c) n v uuid cs m d

pub changes_later : (r : Chronicle) (n v uuid : ℕ) (cs : List Change) → Later r (after_lines r (changes_told n v uuid cs))
changes_later r n v uuid cs = record { last = changes_last r n v uuid cs; grows = made_on r (changes_told n v uuid cs) }

pub changes_claim : (r : Chronicle) (n v uuid : ℕ) (cs : List Change) (clients : ℕ → Option PlainClient) (u : ℕ) (x : Waiting) (p : Pend) → ClaimAt r n clients u x p
    → ClaimAt (after_lines r (changes_told n v uuid cs)) n clients u x p
changes_claim r n v uuid cs clients = claim_read r (after_lines r (changes_told n v uuid cs)) n clients (changes_later r n v uuid cs) (changes_asked r n v uuid cs n)

-- what waits at the vBucket u of the node n is the prepare of this write of the vBucket v, and was told among these changes, as it was asked for
abbrev pub IsOwn : ℕ → ℕ → Write → Durability → List OwnChange → ℕ → Waiting → Pend → Type 0
IsOwn n v write wish told u x p = (u ≡ v) × IsPrepareOf write x p × IsToldIn n u wish x p told

-- what a frame asks is one write
pub write_of : (n : ℕ) (settings : Settings) (f : Frame) (v : ℕ) (x : Waiting) (p : Pend) (told : List OwnChange) (write : Write) (wish : Durability) → request_of settings.json f ≡ Ok (request.Write write (Some wish)) → IsWaitOf n settings f v x p told → IsOwn n f.vb_or_status write wish told v x p
write_of n settings f v x p told write wish asks k =
    let both : Ok (request.Write k.write (Some k.wish)) ≡ Ok (request.Write write (Some wish)) = sym k.asks ∙ asks in
    let same : k.write ≡ write = cc in
    let meant : k.wish ≡ wish = cc in
    (sym k.at, subst (λ y. IsPrepareOf y x p) same k.prepares, subst (λ y. IsToldIn n v y x p told) meant k.told_in)

-- who awaits under this number asked for what is claimed
abbrev pub IsOf : Chronicle → ℕ → ℕ → Awaited → (ℕ → Waiting → Pend → Type 0) → Type 0
IsOf r n c a Claim = (line : LastLine) (v : ℕ) (x : Waiting) (p : Pend) → r.last ≡ Some line → x.waiter ≡ a.waiter → Claim v x p → (q : Question) → question_of (asked_at r n c) ≡ Some q → IsWaitOf n (asked_at r n c).settings q.frame v x p (told_for (line.served n c) (asked_at r n c).answered r.made)

-- what waits under this number is of this write at the vBucket v of the node n, and was told among these changes
abbrev pub OwnClaim : Option LastLine → List OwnChange → ℕ → ℕ → ℕ → Write → Durability → ℕ → Waiting → Pend → Type 0
OwnClaim last made waiter n v write wish u x p = (line : LastLine) → last ≡ Some line → x.waiter ≡ waiter → IsOwn n v write wish made u x p

-- what is known while numbers rise, by the last line
pub serves_line : (last : Option LastLine) (by : LastLine → List OwnChange) (told : List OwnChange) → option_map by last ≡ Some told → (line : LastLine) × (last ≡ Some line) × (by line ≡ told)
serves_line None by told e = let z : None ≡ Some told = e in absurd cc
serves_line (Some line) by told e = (line, refl, (let same : by line ≡ told = cc in same))
