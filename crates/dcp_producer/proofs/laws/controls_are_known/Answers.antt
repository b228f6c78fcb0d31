use Rattle.dcp_producer.proofs.Handshaking.{controls_name, controls_on, controls_off, controls_size, controls_noop, controls_interval, controls_refused}
use Rattle.dcp_producer.proofs.laws.controls_are_known.Goals as goal

pub returns-clause-name : goal.returns-clause-name
returns-clause-name c f s sync name value opened named = controls_name f s sync name opened value named

pub returns-clause-on : goal.returns-clause-on
returns-clause-on c = controls_on

pub returns-clause-off : goal.returns-clause-off
returns-clause-off c = controls_off

pub returns-clause-size : goal.returns-clause-size
returns-clause-size c f s sync name n opened fits = controls_size f s sync name opened n fits

pub returns-clause-others : goal.returns-clause-others
returns-clause-others c = controls_refused

pub returns-clause-noop : goal.returns-clause-noop
returns-clause-noop c f s sync name value opened flag = controls_noop f s sync name opened value flag

pub returns-clause-interval : goal.returns-clause-interval
returns-clause-interval c f s sync name n opened fits = controls_interval f s sync name opened n fits
