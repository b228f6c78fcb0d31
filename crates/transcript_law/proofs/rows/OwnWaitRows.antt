-- which prepare is the one that is awaited, and who awaits its own, judged by hand
use Rattle.std.specs.Prelude.{◌≡◌, ◌≢◌, ◌<◌, ◌∷◌, ◌==◌, if◌then◌else◌}
use Rattle.transcript_law.proofs.Words.{ℕ, Bool, true, false, List, [], refl, ap, sym, ◌∙◌, subst, inl, inr, ⊎_elim, arith, eq-eqb, eqb-true, Option, Some, None, Ok, AreFollowed, Chronicle, Pend, Plain, PlainNode, Role, States, Write, empty_world, is_active}
use Rattle.client_session.specs.declared.session.Awaited.{Awaited}
use Rattle.durability.specs.Laws.{Waits}
use Rattle.durability.specs.declared.waiting.Waiting.{Waiting}
use Rattle.mcbp_kv.specs.Requests.{request_of}
use Rattle.mcbp_kv.specs.declared.durable.Durability.{Durability}
use Rattle.mcbp_kv.specs.declared.request.KvRequest.TheVariants as request
use Rattle.node_core.specs.Clients.{PlainClient}
use Rattle.transcript_law.proofs.rows.WaitRows.{no_one}
use Rattle.transcript_law.specs.{LinesTold.{LastLine}, Feeding.{client_in}, OwnWaits.{AllAwaitTheirOwn, AwaitTheirOwnIf, AwaitsItsOwn, IsEntryOf, IsTheOneAt, another_waits, node_alone, one_node, two_states, vbs_of, waits_alone}, Questions.{Question, question_of}, StreamsTold.{Asking}, Waits.{one_waits, with_one_at, with_only, with_waiting}}
use Rattle.vb_calls.specs.{Durable.{is_delete}, State.{pending_of}}
use Rattle.vb_types.specs.declared.write.Op.TheVariants as op

-- what stands under 0, where nothing else does
at_first : (first : Plain) (u : ℕ) (other : Plain) → two_states (Some first) None u ≡ Some other → (u ≡ 0) × (first ≡ other)
at_first first u other e = by (u == 0) refl e
  where
    none : (b : Bool) → (if b then None else None) ≡ Some other → ⊥
    none true k = cc
    none false k = cc

    by : (b : Bool) → (u == 0) ≡ b → (if b then Some first else if u == 1 then None else None) ≡ Some other → (u ≡ 0) × (first ≡ other)
    by true is k = (eqb-true u 0 is, (let z : Some first ≡ Some other = k in cc))
    by false is k = absurd (none (u == 1) k)

module _ (vb : Plain) (write : Write) where
  abbrev with_one : ℕ → Plain
  with_one m = with_waiting vb (one_waits m ∷ [])

  -- the vBucket is this one then
  vb_is : (m k : ℕ) (second : Option Plain) (f : IsTheOneAt k (two_states (waits_alone vb m) second) 0 write) → with_one m ≡ f.vb
  vb_is m k second f = let z : Some (with_one m) ≡ Some f.vb = f.there in cc

  w_is : (m k : ℕ) (second : Option Plain) (f : IsTheOneAt k (two_states (waits_alone vb m) second) 0 write) → f.w ≡ one_waits m
  w_is m k second f = ⊎_elim (λ e. e) (λ none. absurd none) (subst (λ (y : Plain). Waits f.w y.waiting) (sym (vb_is m k second f)) f.among)

  entry_is : (second : Option Plain) (f : IsTheOneAt 7 (two_states (waits_alone vb 7) second) 0 write) → pending_of vb write.key ≡ Some f.pend
  entry_is second f = subst (λ (y : Plain). pending_of y write.key ≡ Some f.pend) (sym (vb_is 7 7 second f)) f.entry

  pend_is : (pend : Pend) → pending_of vb write.key ≡ Some pend → (f : IsTheOneAt 7 (two_states (waits_alone vb 7) None) 0 write) → pend ≡ f.pend
  pend_is pend there f = let z : Some pend ≡ Some f.pend = sym there ∙ entry_is None f in cc

  pub one : (pend : Pend) → vb.role ≡ Role.Active → write.key ≡ 107 ∷ [] → pending_of vb (107 ∷ []) ≡ Some pend → pend.seq ≡ 5 → IsEntryOf write pend → IsTheOneAt 7 (two_states (waits_alone vb 7) None) 0 write
  one pend active key entry seq own = record {
    vb = with_one 7;
    there = refl;
    active = ap is_active active;
    w = one_waits 7;
    among = inl refl;
    number = refl;
    key = sym key;
    pend = pend;
    entry = ap (pending_of vb) key ∙ entry;
    same = seq;
    own = own;
    only = λ u other x at i e. let k = at_first (with_one 7) u other at in (k.0, ⊎_elim (λ s. s) (λ none. absurd none) (subst (λ (y : Plain). Waits x y.waiting) (sym k.1) i));
  }

  -- beside one under another number
  pub apart : (pend : Pend) → vb.role ≡ Role.Active → write.key ≡ 107 ∷ [] → pending_of vb (107 ∷ []) ≡ Some pend → pend.seq ≡ 5 → IsEntryOf write pend → IsTheOneAt 7 (two_states (Some (with_waiting vb (one_waits 7 ∷ another_waits 8 ∷ []))) None) 0 write
  apart pend active key entry seq own = let now : Plain = with_waiting vb (one_waits 7 ∷ another_waits 8 ∷ []) in record {
    vb = now;
    there = refl;
    active = ap is_active active;
    w = one_waits 7;
    among = inl refl;
    number = refl;
    key = sym key;
    pend = pend;
    entry = ap (pending_of vb) key ∙ entry;
    same = seq;
    own = own;
    only = λ u other x at i e. let k = at_first now u other at in (
      k.0,
      ⊎_elim (λ s. s) (λ m. ⊎_elim (λ s. let n : ◌≡◌ {A = ℕ} 8 7 = sym (ap (λ (y : Waiting). y.waiter) s) ∙ e in absurd (omega (arith, n))) (λ none. absurd none) m) (subst (λ (y : Plain). Waits x y.waiting) (sym k.1) i),
    );
  }

  pub other : IsTheOneAt 7 (two_states (waits_alone vb 8) None) 0 write → ⊥
  other f = let n : ◌≡◌ {A = ℕ} 8 7 = sym (ap (λ (y : Waiting). y.waiter) (w_is 8 7 None f)) ∙ f.number in omega (arith, n)

  pub elsewhere : IsTheOneAt 7 (two_states None (waits_alone vb 7)) 0 write → ⊥
  elsewhere f = let z : None ≡ Some f.vb = f.there in cc

  pub idle : vb.role ≡ Role.Replica → IsTheOneAt 7 (two_states (waits_alone vb 7) None) 0 write → ⊥
  idle replica f = let z : false ≡ true = sym (ap is_active replica) ∙ ap (λ (y : Plain). is_active y.role) (vb_is 7 7 None f) ∙ f.active in cc

  pub key : write.key ≡ 108 ∷ [] → IsTheOneAt 7 (two_states (waits_alone vb 7) None) 0 write → ⊥
  key named f = let z : ◌≡◌ {A = List ℕ} (107 ∷ []) (108 ∷ []) = sym (ap (λ (y : Waiting). y.key) (w_is 7 7 None f)) ∙ f.key ∙ named in let n : ◌≡◌ {A = ℕ} 107 108 = cc z in omega (arith, n)

  pub nothing : pending_of vb write.key ≡ None → IsTheOneAt 7 (two_states (waits_alone vb 7) None) 0 write → ⊥
  nothing none f = let z : None ≡ Some f.pend = sym none ∙ entry_is None f in cc

  pub later : (pend : Pend) → pending_of vb write.key ≡ Some pend → pend.seq ≡ 6 → IsTheOneAt 7 (two_states (waits_alone vb 7) None) 0 write → ⊥
  later pend there six f =
      let n : ◌≡◌ {A = ℕ} 6 5 = sym six ∙ ap (λ (p : Pend). p.seq) (pend_is pend there f) ∙ f.same ∙ ap (λ (y : Waiting). y.seq) (w_is 7 7 None f) in omega (arith, n)

  pub value : (pend : Pend) → pending_of vb write.key ≡ Some pend → pend.doc.value ≢ write.value → IsTheOneAt 7 (two_states (waits_alone vb 7) None) 0 write → ⊥
  value pend there differs f = differs (ap (λ (p : Pend). p.doc.value) (pend_is pend there f) ∙ f.own.value)

  pub flags : (pend : Pend) → pending_of vb write.key ≡ Some pend → pend.doc.flags ≢ write.flags → IsTheOneAt 7 (two_states (waits_alone vb 7) None) 0 write → ⊥
  flags pend there differs f = differs (ap (λ (p : Pend). p.doc.flags) (pend_is pend there f) ∙ f.own.flags)

  pub expiry : (pend : Pend) → pending_of vb write.key ≡ Some pend → pend.doc.expiry ≢ write.expiry → IsTheOneAt 7 (two_states (waits_alone vb 7) None) 0 write → ⊥
  expiry pend there differs f = differs (ap (λ (p : Pend). p.doc.expiry) (pend_is pend there f) ∙ f.own.expiry)

  pub datatype : (pend : Pend) → pending_of vb write.key ≡ Some pend → pend.doc.datatype ≢ write.datatype → IsTheOneAt 7 (two_states (waits_alone vb 7) None) 0 write → ⊥
  datatype pend there differs f = differs (ap (λ (p : Pend). p.doc.datatype) (pend_is pend there f) ∙ f.own.datatype)

  pub removes : (pend : Pend) → pending_of vb write.key ≡ Some pend → pend.deleted ≡ true → write.op ≡ op.Set → IsTheOneAt 7 (two_states (waits_alone vb 7) None) 0 write → ⊥
  removes pend there gone set f = let z : true ≡ false = sym gone ∙ ap (λ (p : Pend). p.deleted) (pend_is pend there f) ∙ f.own.deleted ∙ ap is_delete set in cc

  -- two under one number, at two vBuckets and at one
  pub two : (second : Plain) → IsTheOneAt 7 (two_states (waits_alone vb 7) (waits_alone second 7)) 0 write → ⊥
  two second f = let n : ◌≡◌ {A = ℕ} 1 0 = (f.only 1 (with_waiting second (one_waits 7 ∷ [])) (one_waits 7) refl (inl refl) refl).0 in omega (arith, n)

  pub both : IsTheOneAt 7 (two_states (Some (with_waiting vb (one_waits 7 ∷ another_waits 7 ∷ []))) None) 0 write → ⊥
  both f =
      let now : Plain = with_waiting vb (one_waits 7 ∷ another_waits 7 ∷ []) in
      let first : one_waits 7 ≡ f.w = (f.only 0 now (one_waits 7) refl (inl refl) refl).1 in
      let second : another_waits 7 ≡ f.w = (f.only 0 now (another_waits 7) refl (inr (inl refl)) refl).1 in
      let n : ◌≡◌ {A = ℕ} 5 6 = ap (λ (y : Waiting). y.seq) first ∙ sym (ap (λ (y : Waiting). y.seq) second) in omega (arith, n)

-- ---- connections

module _ (asking : Asking) (a : Awaited) (states : States) where
  pub awaits_own : (q : Question) (write : Write) (wish : Durability) → question_of asking ≡ Some q → request_of asking.settings.json q.frame ≡ Ok (request.Write write (Some wish)) → IsTheOneAt a.waiter states q.frame.vb_or_status write → AwaitsItsOwn asking a states
  awaits_own q write wish next asks one = record { question = q; next = next; write = write; wish = wish; asks = asks; one = one }

  pub unasked : question_of asking ≡ None → AwaitsItsOwn asking a states → ⊥
  unasked none f = let z : None ≡ Some f.question = sym none ∙ f.next in cc

  pub plain_write : (q : Question) (write : Write) → question_of asking ≡ Some q → request_of asking.settings.json q.frame ≡ Ok (request.Write write None) → AwaitsItsOwn asking a states → ⊥
  plain_write q write next asks f =
      let z : Some q ≡ Some f.question = sym next ∙ f.next in let same : q ≡ f.question = cc in
      let k : Ok (request.Write write None) ≡ Ok (request.Write f.write (Some f.wish)) = sym asks ∙ ap (λ (x : Question). request_of asking.settings.json x.frame) same ∙ f.asks in cc

-- the vBucket that the question names has none
pub elsewhere_named : (asking : Asking) (q : Question) (a : Awaited) (vb : Plain) → question_of asking ≡ Some q → q.frame.vb_or_status ≡ 1 → AwaitsItsOwn asking a (two_states (waits_alone vb a.waiter) None) → ⊥
elsewhere_named asking q a vb next one f =
    let z : Some q ≡ Some f.question = sym next ∙ f.next in let same : q ≡ f.question = cc in
    let at : f.question.frame.vb_or_status ≡ 1 = ap (λ (x : Question). x.frame.vb_or_status) (sym same) ∙ one in
    let there : two_states (waits_alone vb a.waiter) None 1 ≡ Some f.one.vb = subst (λ v. two_states (waits_alone vb a.waiter) None v ≡ Some f.one.vb) at f.one.there in
    let k : None ≡ Some f.one.vb = there in cc

module _ (told : Chronicle) where
  pub none_await : AllAwaitTheirOwn told empty_world
  none_await n c client a lt is has = absurd (cc is)

  pub nowhere : (node : PlainNode) (client : PlainClient) (a : Awaited) → client.session.awaited ≡ Some a → AllAwaitTheirOwn told (one_node (with_only node client None)) → ⊥
  nowhere node client a has all = let f = all 0 0 client a (omega arith) refl has in no_one node client f.question.frame.vb_or_status f.one.vb f.one.there

  -- so it is of each connection of each node
  pub any_await : (node : PlainNode) (client : PlainClient) (a : Awaited) (n c : ℕ) → c < 1000 → client.session.awaited ≡ Some a → AllAwaitTheirOwn told (node_alone n (with_one_at node c client)) → ⊥
  any_await node client a n c low has all =
      let there : (node_alone n (with_one_at node c client)).nodes n ≡ Some (with_one_at node c client) = ap (λ b. if b then Some (with_one_at node c client) else None) (eq-eqb n n refl) in
      let open_there : client_in ((node_alone n (with_one_at node c client)).nodes n) c ≡ Some client = ap (λ o. client_in o c) there ∙ ap (λ b. if b then Some client else None) (eq-eqb c c refl) in
      let f = all n c client a low open_there has in
      let z : None ≡ Some f.one.vb = sym (ap (λ o. vbs_of o f.question.frame.vb_or_status) there) ∙ f.one.there in cc

  pub rises : (line : LastLine) (node : PlainNode) (client : PlainClient) (a : Awaited) → client.session.awaited ≡ Some a → AwaitTheirOwnIf (Some line) told (one_node (with_only node client None)) → ⊥
  rises line node client a has all = nowhere node client a has all

  -- so it is of what a script leaves
  pub left : (line : LastLine) (node : PlainNode) (client : PlainClient) (a : Awaited) → told.last ≡ Some line → client.session.awaited ≡ Some a → AreFollowed told (one_node (with_only node client None)) → ⊥
  left line node client a last has f = nowhere node client a has (subst (λ o. AwaitTheirOwnIf o told (one_node (with_only node client None))) last f.awaited)
