-- What the checker computes with: where `computing` unfolds, all definitions between the bytes offered and the bytes of an answer do.
use mathlib.Core.List.{List, flat_map}
use Prim.Native.Nat.{ℕ}
use lib.Count.{ones_in, count_trailing_zeros}
use Rattle.sets.specs.paper.Sets.{has, one, union, meet, minus, disjoint, meets, subset, set_of, size, lowest, members_from, members, lex_less, rising_less, absorb, pass, passes, close_of, numbers, below, any_below, union_below, fold_below, all_of, any_of, union_of}
use Rattle.records.specs.paper.Fields.{byte_at, bytes_at, repeat, little, field_at, fields_at, record_at, read_from, first_fault}
use Rattle.records.specs.code.Check.{checked_of}
use Rattle.records.specs.paper.Plan.{plan_formats, node_from, election_from, decisions_from, add_to_plan, plan_counts, is_boolean, rises, facts_rise, decided_once, unresolved_in, unresolved, judge_plan, plan_records, each_from, get_fact, node_sound, edge_sound, election_sound, cut_sound, attachment_sound, naming_faults, crosses, crossings_decided, same_election, election_faults, plan_faults, checked_plan}
use Rattle.records.specs.paper.Case.{case_formats, observations_from, add_to_case, case_counts, judge_case, case_records, relation_sound, case_naming_faults, read_case, case_heading}
use Rattle.expressions.specs.paper.Rules.{rule_persons, edge, cut, attachment, bar, status, pair, with_anchor, rule_sets, chained}
use Rattle.expressions.specs.paper.Nodes.{value, values_from, values, uses, uses_from, node_uses}
use Rattle.expressions.specs.paper.Influence.{open_in, open_below, open_decisions, open_decision, decision_touch, edge_uses, cut_uses, attachment_uses, bar_uses, status_uses, users_of, constraint_uses, bound_facts, touched, touch, touches, decision_touches, joins, circle, touches_circle}
use Rattle.expressions.specs.paper.Bindings.{evidence_of, values_seen, weighed, elections, default_of, bound_boolean, in_scope, bound_relation, binding_of, bindings, took_default, observed_in_booleans, observed_in_relations, unknown_in, elections_in, scoped, binding_by, bindings_by, took_default_by, family_faults, boolean_fault, boolean_faults, bindable}
use Rattle.expressions.specs.paper.Variables.{boolean_count, slots, ways_of, world_count, set, valuations, admissible, worlds, fact_influence, decision_influence, influence}
use Rattle.worlds.specs.paper.Active.{flags, active, blocks_edge}
use Rattle.worlds.specs.paper.World.{about, base_set, base_sets, clique, loose, loose_component, loose_components, spread, chain_step, preceded, kept_cut, kept_cuts, overlapping_cut, overlapping_cuts, blocked_by, blocked_cut, applied_cuts, discretion_seed, overlap_seed, marks_of, marked, cut_members, applied_to, rest_sets, first_block, first_state, move, attach, last_state, barred_by, excluded_by, after_marks, world_of}
use Rattle.worlds.specs.paper.View.{role_of, edge_citations, leads, cut_citations, attachment_citations, bar_citations, status_citations, citations, view}
use Rattle.page.specs.Little.{little_bytes}
use Rattle.worlds.specs.paper.Events.{event, listed, frozen_events, applied_events, blocks, blocked_events, least_of_merged, overlaps, overlap_events, attachment_events, bar_events, status_events, discretion_events, events_of}
use Rattle.report.specs.paper.Line.{line_bytes, first_kind, holding, line_over, line_in}
use Rattle.report.specs.paper.EventList.{insert, rising, default_events}
use Rattle.report.specs.paper.Operations.{Outcome, check, mismatched, heading_fault, too_many, counted, bound_and_counted, bound, opened, written, influences, all_worlds, lines_over, events_over, lines_of, answer_ready, answer, show_from, show}

unfoldable pub computing : List ℕ → List ℕ → ℕ → ℕ → Outcome
unfolding flat_map ones_in count_trailing_zeros has one union meet minus disjoint meets subset set_of size lowest members_from members lex_less rising_less absorb pass passes close_of numbers below any_below union_below fold_below all_of any_of union_of byte_at bytes_at repeat little field_at fields_at record_at read_from first_fault plan_formats node_from election_from decisions_from add_to_plan plan_counts is_boolean rises facts_rise decided_once unresolved_in unresolved judge_plan plan_records each_from get_fact node_sound edge_sound election_sound cut_sound attachment_sound naming_faults crosses crossings_decided same_election election_faults plan_faults checked_plan case_formats observations_from add_to_case case_counts judge_case case_records relation_sound case_naming_faults read_case case_heading edge cut attachment bar status pair with_anchor rule_sets chained value values_from values uses uses_from node_uses open_in open_below open_decisions open_decision decision_touch edge_uses cut_uses attachment_uses bar_uses status_uses users_of constraint_uses bound_facts touched touch touches decision_touches joins circle touches_circle evidence_of values_seen weighed elections default_of bound_boolean in_scope bound_relation binding_of bindings took_default observed_in_booleans observed_in_relations unknown_in elections_in scoped binding_by bindings_by took_default_by family_faults boolean_fault boolean_faults bindable boolean_count slots ways_of world_count set valuations admissible worlds fact_influence decision_influence influence flags active blocks_edge about base_set base_sets clique loose loose_component loose_components spread chain_step preceded kept_cut kept_cuts overlapping_cut overlapping_cuts blocked_by blocked_cut applied_cuts discretion_seed overlap_seed marks_of marked cut_members applied_to rest_sets first_block first_state move attach last_state barred_by excluded_by after_marks world_of role_of edge_citations leads cut_citations attachment_citations bar_citations status_citations citations view little_bytes event listed frozen_events applied_events blocks blocked_events least_of_merged overlaps overlap_events attachment_events bar_events status_events discretion_events events_of line_bytes first_kind holding line_over line_in insert rising default_events check checked_of rule_persons mismatched heading_fault too_many counted bound_and_counted bound opened written influences all_worlds lines_over events_over lines_of answer_ready answer show_from show
computing = answer
