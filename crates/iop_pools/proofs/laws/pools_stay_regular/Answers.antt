use Rattle.iop_pools.proofs.FixedRegular.{no_fixed, fixed_stay}
use Rattle.iop_pools.proofs.VariableRegular.{no_variable, variable_stay, rounded_alike}
use Rattle.iop_pools.proofs.laws.pools_stay_regular.Goals as goal

pub returns : goal.returns
returns c = record {
  no_variable = no_variable;
  variable_calls = variable_stay;
  rounded = rounded_alike;
  no_fixed = no_fixed;
  fixed_calls = fixed_stay;
}
