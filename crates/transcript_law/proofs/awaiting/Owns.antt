-- what a connection awaits is its own prepare, and no other is outstanding under its number
use Rattle.std.specs.Prelude.{◌≡◌, ◌≢◌}
use Rattle.transcript_law.proofs.Words.{ℕ, Bool, true, false, List, refl, ap, sym, ◌∙◌, subst, Option, Some, None, Ok, Chronicle, Doc, Pend, Plain, PlainNode, PlainWorld, ScriptFits, ScriptLine, Sound, Write, is_active, known_of, vb_in, world_of}
use Rattle.client_session.specs.declared.session.Awaited.{Awaited}
use Rattle.durability.specs.{Laws.{Waits}, declared.waiting.Waiting.{Waiting}}
use Rattle.mcbp_kv.specs.declared.request.KvRequest.TheVariants as request
use Rattle.node_core.specs.Clients.{PlainClient}
use Rattle.transcript_law.proofs.answers.Awaited.{IsOutstanding, entry_of}
use Rattle.transcript_law.proofs.awaiting.{Calls.{one_each}, Nodes.{number_some}, Running.{script_waits}, Scripts.{Known, known}, Stays.{NoneIn, NoneWaits}}
use Rattle.transcript_law.proofs.indexers.Questions.{awaited_next}
use Rattle.transcript_law.proofs.invariant.{Agreement.{AgreesAt, vb_of}, Owing.{ConnOwed, IsWaitOf, OwedIf, OwedIn, Owing}, Ranged.{NodeRangedIf}, Seats.{seat}}
use Rattle.transcript_law.specs.{Feeding.{client_in}, LinesTold.{LastLine, OwnChange, number_of, risen_through, told_for}, OwnWaits.{AllAwaitTheirOwn, AwaitTheirOwnIf, AwaitsItsOwn, vbs_of}, Questions.{Question, question_of}, StreamsTold.{Asking}, Waits.{IsOutstandingAt}}
use Rattle.transcript_law.proofs.lines.Risen.{script_last}
use Rattle.vb_calls.specs.State.{pending_of}
use Rattle.vbucket.proofs.Backing.{none_idle}

-- a vBucket at which a prepare is outstanding is active
active_there : (vb : Plain) → Sound vb → (w : Waiting) → Waits w vb.waiting → is_active vb.role ≡ true
active_there vb s w i = by (is_active vb.role) refl
  where
    by : (b : Bool) → is_active vb.role ≡ b → is_active vb.role ≡ true
    by true e = e
    by false e = absurd (subst (Waits w) (none_idle vb.role vb.waiting e s.waits.only) i)

-- at one key one is
one_of_key : (vb : Plain) → Sound vb → (x y : Waiting) → Waits x vb.waiting → Waits y vb.waiting → x.key ≡ y.key → x ≡ y
one_of_key vb s x y i j same =
    let p = s.waits.backed x i in let q = s.waits.backed y j in
    let z : Some p.0 ≡ Some q.0 = sym p.1 ∙ ap (pending_of vb) same ∙ q.1 in let one : p.0 ≡ q.0 = cc in
    one_each vb.waiting x y s.waits.ascend i j (sym p.2 ∙ ap (λ (e : Pend). e.seq) one ∙ q.2)

module _ (w : PlainWorld) (r : Chronicle) (k : Known w r) (last : LastLine) (rises : r.last ≡ Some last) (n c : ℕ) (node : PlainNode) (there : w.nodes n ≡ Some node) (client : PlainClient) (is : node.clients c ≡ Some client) (a : Awaited) (has : client.session.awaited ≡ Some a) where
  abbrev asking : Asking
  asking = (r.clients_at n c).asking

  in_world : client_in (w.nodes n) c ≡ Some client
  in_world = ap (λ o. client_in o c) there ∙ is

  vb_there : (v : ℕ) (vb : Plain) → node.vbs v ≡ Some vb → vb_in (w.nodes n) v ≡ Some vb
  vb_there v vb e = ap (λ o. vb_in o v) there ∙ e

  sound : (v : ℕ) (vb : Plain) → node.vbs v ≡ Some vb → Sound vb
  sound v vb e = (subst (AgreesAt r n v (k.agrees.0.nodes (seat n v))) (vb_there v vb e) (k.agrees.1.vbs n v)).sound

  some : a.waiter ≢ 0
  some = number_some n node (subst (NodeRangedIf n) there (k.ranged n)) c client a is has

  owed : OwedIn last w r
  owed = subst (λ o. OwedIf o w r) rises k.agrees.1.clients.owed

  conn : ConnOwed last n c r.made (vb_of w n) asking client.session
  conn = owed.each n c client in_world

  -- what waits under its number is of the question that it is to be answered
  module _ (q : Question) (next : question_of asking ≡ Some q) where
    abbrev told : List OwnChange
    told = told_for (last.served n c) asking.answered r.made

    -- this one, with what waits at its key
    record IsMine (v : ℕ) (vb : Plain) (x : Waiting) : Type 0 where
      pub pend : Pend
      pub out : IsOutstanding vb x pend
      pub own : IsWaitOf n asking.settings q.frame v x pend told

    mine : (v : ℕ) (vb : Plain) (x : Waiting) → node.vbs v ≡ Some vb → Waits x vb.waiting → x.waiter ≡ a.waiter → IsMine v vb x
    mine v vb x at i e =
        let (p, out) = entry_of vb (sound v vb at) x i in
        let owing : Owing (vb_of w n v) x p = subst (λ o. Owing o x p) (sym (vb_there v vb at)) ((λ z. some (sym e ∙ z)), out) in
        record { pend = p; out = out; own = conn.own a q v x p has next owing e }

    module _ (o : IsOutstandingAt a.waiter node.vbs) where
      first : IsMine o.v o.vb o.w
      first = mine o.v o.vb o.w o.there o.among o.number

      key_of : o.w.key ≡ first.own.write.key
      key_of = first.own.prepares.key_is

      -- any other is this one
      same_one : (u : ℕ) (other : Plain) (x : Waiting) → node.vbs u ≡ Some other → Waits x other.waiting → x.waiter ≡ a.waiter → (u ≡ q.frame.vb_or_status) × (x ≡ o.w)
      same_one u other x at i e =
          let second = mine u other x at i e in
          let named : u ≡ q.frame.vb_or_status = sym second.own.at in
          let vbs : Some other ≡ Some o.vb = sym at ∙ ap node.vbs (named ∙ first.own.at) ∙ o.there in let one : other ≡ o.vb = cc in
          let asked : Ok (request.Write second.own.write (Some second.own.wish)) ≡ Ok (request.Write first.own.write (Some first.own.wish)) = sym second.own.asks ∙ first.own.asks in
          let write : second.own.write ≡ first.own.write = cc in
          (named, one_of_key o.vb (sound o.v o.vb o.there) x o.w (subst (λ (y : Plain). Waits x y.waiting) one i) o.among (second.own.prepares.key_is ∙ ap (λ (y : Write). y.key) write ∙ sym key_of))

      awaits : AwaitsItsOwn asking a node.vbs
      awaits = record {
        question = q;
        next = next;
        write = first.own.write;
        wish = first.own.wish;
        asks = first.own.asks;
        one = record {
          vb = o.vb;
          there = ap node.vbs first.own.at ∙ o.there;
          active = active_there o.vb (sound o.v o.vb o.there) o.w o.among;
          w = o.w;
          among = o.among;
          number = o.number;
          key = key_of;
          pend = first.pend;
          entry = sym (ap (pending_of o.vb) key_of) ∙ first.out.entry;
          same = first.out.same;
          own = record {
            value = ap (λ (d : Doc). d.value) first.own.prepares.doc_is;
            flags = ap (λ (d : Doc). d.flags) first.own.prepares.doc_is;
            expiry = ap (λ (d : Doc). d.expiry) first.own.prepares.doc_is;
            datatype = ap (λ (d : Doc). d.datatype) first.own.prepares.doc_is;
            deleted = first.own.prepares.deleted_is;
          };
          only = same_one;
        };
      }

  owns : IsOutstandingAt a.waiter node.vbs → AwaitsItsOwn asking a node.vbs
  owns o = let next = awaited_next asking client.session client.producer.handshake (k.agrees.1.clients.each n c client in_world).asks a has in awaits next.0.question next.1 o

pub all_await : (w : PlainWorld) (r : Chronicle) → Known w r → (last : LastLine) → r.last ≡ Some last → NoneWaits w → AllAwaitTheirOwn r w
all_await w r k last rises none n c client a lt is has = by (w.nodes n) refl is
  where
    by : (o : Option PlainNode) → w.nodes n ≡ o → client_in o c ≡ Some client → AwaitsItsOwn (r.clients_at n c).asking a (vbs_of o)
    by None e there = absurd (cc there)
    by (Some node) e there = owns w r k last rises n c node e client there a has (subst NoneIn e (none n) c client a lt there has)

-- behind a script
pub script_awaits : (script : List ScriptLine) → ScriptFits script → AwaitTheirOwnIf (known_of script).last (known_of script) (world_of script)
script_awaits script fits = by (known_of script).last refl
  where
    by : (o : Option LastLine) → (known_of script).last ≡ o → AwaitTheirOwnIf o (known_of script) (world_of script)
    by None e = tt
    by (Some last) e = all_await (world_of script) (known_of script) (known script fits) last e (script_waits script fits last e)

pub await_their_own : (script : List ScriptLine) → ScriptFits script → (line : ℕ) → risen_through (Some 0) script ≡ Some line → AllAwaitTheirOwn (known_of script) (world_of script)
await_their_own script fits line rises = by (known_of script).last refl (script_awaits script fits)
  where
    by : (o : Option LastLine) → (known_of script).last ≡ o → AwaitTheirOwnIf o (known_of script) (world_of script) → AllAwaitTheirOwn (known_of script) (world_of script)
    by None e all = let z : None ≡ Some line = sym (ap number_of e) ∙ script_last script ∙ rises in absurd (cc z)
    by (Some last) e all = all
