-- What the program says of a configuration's text that is refused.
use Rattle.std.specs.Prelude.{ℕ, List, codes}
use Rattle.kc_types.specs.declared.config.ConfigFault.TheVariants.{Frames, CoreHost, Leaves, TooManyDigests}
use Rattle.kc_config_text.specs.declared.config_text.ConfigTextFault.{ConfigTextFault}
use Rattle.kc_config_text.specs.declared.config_text.ConfigTextFault.TheVariants as configs

-- why a text is not a configuration
abbrev pub config_fault_words : ConfigTextFault → List ℕ
config_fault_words configs.NotJson = codes "configuration is not JSON"
config_fault_words configs.BadShape = codes "configuration has a wrong shape"
config_fault_words (configs.Config Frames) = codes "configuration refused: frames"
config_fault_words (configs.Config CoreHost) = codes "configuration refused: core and host"
config_fault_words (configs.Config Leaves) = codes "configuration refused: leaves"
config_fault_words (configs.Config TooManyDigests) = codes "configuration refused: approved"
config_fault_words configs.Memory = codes "out of memory"
