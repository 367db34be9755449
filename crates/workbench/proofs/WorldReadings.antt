-- What a configuration file says, from what its bytes are.
use Rattle.std.proofs.Common.{◌≡◌, refl, ap, ◌∙◌, ℕ, List, Bool}
use Rattle.meaning.specs.Documents.{Document, document_of}
use Rattle.meaning.specs.Configurations.{World, of_table, configuration_of, NoTable, NoList, UnknownFeature, Repeated}
use Rattle.meaning.specs.Words.{form_named}
use Rattle.meaning.specs.Answers.{configured}
use Rattle.feature_model.specs.Configs.{config_of, TellsStop}
use Rattle.feature_model.specs.declared.config.ConfigStop.{ConfigStop}
use Rattle.feature_model.specs.declared.config.ConfigStop.TheVariants as config
use Rattle.workbench.specs.declared.status.Status.{Status}
use Rattle.workbench.specs.declared.status.Status.TheVariants as status
use Rattle.workbench.specs.Stopped.{status_of_config_stop}
use Rattle.workbench.specs.Readings.{StopsConfiguration, IsTableOf, StopsTable}

module _ (features : List (List ℕ)) (name bytes : List ℕ) where
  is_table_said : configured features name bytes ≡ of_table features (document_of (form_named name) bytes)
  unfolding configuration_of
  is_table_said = refl

  pub stops_table : (s : Status) → StopsTable name bytes s → StopsConfiguration (configured features name bytes) s
  stops_table status.Done h = absurd h
  stops_table status.BadWords h = absurd h
  stops_table (status.BadBundle fault) h = absurd h
  stops_table (status.BadConfig rule at) h = (NoTable, is_table_said ∙ h.1 features, rw (h.0.0, h.0.1) refl)
  stops_table status.NotValid h = absurd h
  stops_table (status.BadCase fault) h = absurd h
  stops_table (status.NodeLimit used) h = absurd h
  stops_table (status.BigCase entries) h = absurd h
  stops_table (status.TooLong k) h = absurd h
  stops_table (status.ReadFault k) h = absurd h
  stops_table status.WriteFault h = absurd h
  stops_table status.NoMemory h = tt
  stops_table status.Unsupported h = absurd h

  module _ (d : Document) (t : IsTableOf name bytes d) where
    is_configuration : configured features name bytes ≡ config_of features d
    is_configuration = is_table_said ∙ ap (of_table features) t.is ∙ rw t.table refl

    pub is_world : (w : List Bool) → config_of features d ≡ World w → configured features name bytes ≡ World w
    is_world w e = is_configuration ∙ e

    pub stops_config : (stop : ConfigStop) → TellsStop stop (config_of features d) → StopsConfiguration (configured features name bytes) (status_of_config_stop stop)
    stops_config config.NotList h = (NoList, is_configuration ∙ h, refl)
    stops_config (config.UnknownFeature at) h = (UnknownFeature at, is_configuration ∙ h, refl)
    stops_config (config.Repeated at) h = (Repeated at, is_configuration ∙ h, refl)
    stops_config config.NoMemory h = tt
