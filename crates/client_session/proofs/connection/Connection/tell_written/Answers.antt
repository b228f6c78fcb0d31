use Rattle.std.proofs.Common.{◌≡◌, ◌∙◌, [], true, Bool, ap, sym, subst, if◌then◌else◌, OnOk}
use Rattle.mcbp_kv.specs.Answers.{seqno_extras}
use Rattle.client_session.specs.Answers.{token}
use Rattle.client_session.specs.Heads.{answered}
use Rattle.client_session.proofs.connection.Connection.tell_written.Goals as goal

pub returns-then-self : goal.returns-then-self
returns-then-self c =
    let both = seqno_extras c.args.uuid c.args.seq in
    let asked : c.args.self.now.session.settings.seqnos ≡ true = sym (ap (λ s. s.session.settings.seqnos) c.self.view_is) ∙ c.if-self.true in
    let told : both ≡ token c.args.self.now.session.settings c.args.uuid c.args.seq = sym (ap (λ (b : Bool). if b then both else []) asked) in
    subst (λ bytes. OnOk c.tell_token.result (c.tell_token.new.self ≡ answered c.args.self.now c.args.head.now bytes [])) told c.tell_token.ensures
