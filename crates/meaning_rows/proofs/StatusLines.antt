-- What each status says on the error output, and its number, computed by the check.
use Rattle.std.specs.Prelude.{◌≡◌, [], ◌∷◌, true, false, refl, codes, map}
use Rattle.meaning.specs.Configurations as configuration
use Rattle.meaning.specs.Replay as replay
use Rattle.meaning.specs.Audits as audit
use Rattle.meaning.specs.BundlePlaces.{Table}
use Rattle.meaning.specs.BundleRules.{no_table, no_valid_world}
use Rattle.meaning.specs.Statuses.{Done, BadWords, BadBundle, NotValid, BadCase, NodeLimit, BigCase, AuditNo, RulesBroken, ReplayNo, TooLong, ReadFault, WriteFault, NoMemory, Unsupported, status_line, status_number, of_configuration, of_run}
use Rattle.meaning_rows.proofs.Samples.{meaning_on_literals}

line_of_done : status_line (Done) ≡ []
unfolding meaning_on_literals status_line
line_of_done = refl

line_of_words : status_line (BadWords) ≡ codes "plcase: bad words\n"
unfolding meaning_on_literals status_line
line_of_words = refl

line_of_no_product : status_line (BadBundle no_valid_world) ≡ codes "plcase: bundle rule B30 at line 0 0 0\n"
unfolding meaning_on_literals status_line
line_of_no_product = refl

line_of_empty_file : status_line (BadBundle no_table) ≡ codes "plcase: bundle rule B1 at document 0 0 0\n"
unfolding meaning_on_literals status_line
line_of_empty_file = refl

line_of_unknown_feature : status_line (of_configuration (configuration.UnknownFeature 1)) ≡ codes "plcase: config rule K3 at 1\n"
unfolding meaning_on_literals status_line
line_of_unknown_feature = refl

line_of_repeated : status_line (of_configuration (configuration.Repeated 1)) ≡ codes "plcase: config rule K4 at 1\n"
unfolding meaning_on_literals status_line
line_of_repeated = refl

line_of_no_list : status_line (of_configuration configuration.NoList) ≡ codes "plcase: config rule K2 at 0\n"
unfolding meaning_on_literals status_line
line_of_no_list = refl

line_of_no_table : status_line (of_configuration configuration.NoTable) ≡ codes "plcase: config rule K1 at 0\n"
unfolding meaning_on_literals status_line
line_of_no_table = refl

line_of_no_system : status_line (of_run replay.NoSystem) ≡ codes "plcase: config rule K7 at 0\n"
unfolding meaning_on_literals status_line
line_of_no_system = refl

line_of_step : status_line (of_run (replay.NoTransition 12)) ≡ codes "plcase: config rule K9 at 12\n"
unfolding meaning_on_literals status_line
line_of_step = refl

line_of_invalid : status_line (NotValid) ≡ codes "plcase: not valid\n"
unfolding meaning_on_literals status_line
line_of_invalid = refl

line_of_case : status_line (BadCase (record { fault = 5; part = Table; item = 0 })) ≡ codes "plcase: case fault F5 at table 0 0\n"
unfolding meaning_on_literals status_line
line_of_case = refl

line_of_limit : status_line (NodeLimit 8) ≡ codes "plcase: node limit 8 reached\n"
unfolding meaning_on_literals status_line
line_of_limit = refl

line_of_entries : status_line (BigCase true) ≡ codes "plcase: big case: entries\n"
unfolding meaning_on_literals status_line
line_of_entries = refl

line_of_bytes : status_line (BigCase false) ≡ codes "plcase: big case: bytes\n"
unfolding meaning_on_literals status_line
line_of_bytes = refl

line_of_closure : status_line (AuditNo (record { clause = audit.ReachedClosed; item = 0; sub = 1 })) ≡ codes "plcase: audit clause A5 at systems 0 1\n"
unfolding meaning_on_literals status_line
line_of_closure = refl

line_of_features : status_line (AuditNo (record { clause = audit.SameFeatures; item = 0; sub = 0 })) ≡ codes "plcase: audit clause A1 at features 0 0\n"
unfolding meaning_on_literals status_line
line_of_features = refl

line_of_rules : status_line (RulesBroken 1) ≡ codes "plcase: 1 rules broken\n"
unfolding meaning_on_literals status_line
line_of_rules = refl

line_of_start : status_line (ReplayNo replay.NotInitial) ≡ codes "plcase: run starts at no initial state\n"
unfolding meaning_on_literals status_line
line_of_start = refl

line_of_joining : status_line (ReplayNo (replay.NotJoined 0)) ≡ codes "plcase: run step 0 is not joined\n"
unfolding meaning_on_literals status_line
line_of_joining = refl

line_of_presence : status_line (ReplayNo (replay.NotPresent 1)) ≡ codes "plcase: run step 1 is not present\n"
unfolding meaning_on_literals status_line
line_of_presence = refl

line_of_long_file : status_line (TooLong 1) ≡ codes "plcase: file 1 too long\n"
unfolding meaning_on_literals status_line
line_of_long_file = refl

line_of_file : status_line (ReadFault 0) ≡ codes "plcase: file 0 not read\n"
unfolding meaning_on_literals status_line
line_of_file = refl

line_of_output : status_line (WriteFault) ≡ codes "plcase: output not written\n"
unfolding meaning_on_literals status_line
line_of_output = refl

line_of_memory : status_line (NoMemory) ≡ codes "plcase: no memory\n"
unfolding meaning_on_literals status_line
line_of_memory = refl

line_of_unbuilt : status_line (Unsupported) ≡ codes "plcase: not built yet\n"
unfolding meaning_on_literals status_line
line_of_unbuilt = refl

numbers : map status_number (Done ∷ BadWords ∷ NotValid ∷ NodeLimit 8 ∷ BigCase true ∷ RulesBroken 1 ∷ ReplayNo replay.NotInitial ∷ TooLong 0 ∷ ReadFault 0 ∷ WriteFault ∷ NoMemory ∷ Unsupported ∷ []) ≡ 0 ∷ 2 ∷ 5 ∷ 7 ∷ 8 ∷ 10 ∷ 11 ∷ 12 ∷ 13 ∷ 14 ∷ 15 ∷ 16 ∷ []
unfolding meaning_on_literals
numbers = refl
