-- In which form a state is described: whole, or blank.
use Rattle.kc_model.specs.State.{State}
use Rattle.kc_model.specs.Blanking.{blank_state}
use Rattle.kc_snapshot.specs.declared.form.StateForm.{StateForm}
use Rattle.kc_snapshot.specs.declared.form.StateForm.TheVariants.{Whole, Blank}

-- the state that is described
abbrev pub in_form : StateForm → State → State
in_form Whole m = m
in_form Blank m = blank_state m
