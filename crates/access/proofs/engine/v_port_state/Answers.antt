-- `v_port_state` meets its contract. Assumes nothing.
use Rattle.access.specs.Access.{v_port_state}
use Rattle.file.specs.File.{seen, register}
use Rattle.access.proofs.engine.v_port_state.Goals as goal

pub returns : goal.returns
unfolding v_port_state seen register
returns c = rw (← c.v_port_shown-shown.ensures) c.store.ensures
