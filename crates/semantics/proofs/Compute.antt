-- To compute with the definitions: whoever unfolds `computed` unfolds all of them, file by file.
use Rattle.semantics.specs.Base.{only, pick, or_else, listed, found, empty, first, final, keep, last, single, numbered, ◌>>=◌, each, sum, most}
use Rattle.semantics.specs.Tree.{is_none, expr_at, name_at, text_at, item_at, same, is_kind, part}
use Rattle.semantics.specs.Tree.{with_role, reference, string, apply, path, plain, select, last_key}
use Rattle.semantics.specs.Words.{globals, sort_number, same_sort, number, type_predicates, compound_predicates, conditional_fn_names, entry, predicate}
use Rattle.semantics.specs.Index.{enters, index_of}
use Rattle.semantics.specs.Scopes.{is_definition, defines, defined, makes, inside, visiting}
use Rattle.semantics.specs.Scopes.{children, inherited, enclosed, binding_children, scope_children, scope_visits}
use Rattle.semantics.specs.Scopes.{scopes_from, scopes_of, resolve_steps, scopes_made, resolve_need}
use Rattle.semantics.specs.Resolution.{entry_of, definition_of, place_of, with_of, resolve_in, scope_of, resolve, own}
use Rattle.semantics.specs.Narrow.{predicate_of, coded, keyed, shape, analysed, nodes_in, nodes, name_of}
use Rattle.semantics.specs.Narrow.{global_of, nothing, singleton, literal_test, literal_tells, compound, test_tells, narrowing}
use Rattle.semantics.specs.Narrow.{local_name, global_name, builtin_set, another_set, builtins_key, chain_key, keyword, literal_sort, callee_in, callee_name, has_attr_call}
use Rattle.semantics.specs.Narrow.{tests, literal_comparison, compared, node, analyze_in, analyze, conditional_fn, call_condition}
use Rattle.semantics.specs.Walk.{guard_for, guard_at, guards, into}
use Rattle.semantics.specs.Walk.{any_item, own_item, let_item, set_item, opened, condition_at}
use Rattle.semantics.specs.Walk.{steps, visits, visits_from, walk, edges, recorded, name_expr, walk_steps, most_in_force, walk_need}
use Rattle.semantics.specs.Values.{sort, holds, outcome, passed}
use Rattle.semantics.specs.Premises.{called}

unfoldable pub computed_Base : Unit {0}
unfolding only pick or_else listed found empty first final keep last single numbered ◌>>=◌ each sum most
computed_Base = tt

unfoldable pub computed_Tree : Unit {0}
unfolding is_none expr_at name_at text_at item_at same is_kind part with_role reference string apply path plain select last_key
computed_Tree = tt

unfoldable pub computed_Words : Unit {0}
unfolding globals sort_number same_sort number type_predicates compound_predicates conditional_fn_names entry predicate
computed_Words = tt

unfoldable pub computed_Index : Unit {0}
unfolding enters index_of
computed_Index = tt

unfoldable pub computed_Scopes : Unit {0}
unfolding is_definition defines defined makes inside visiting children inherited enclosed binding_children scope_children scope_visits
computed_Scopes = tt

unfoldable pub computed_ScopesRun : Unit {0}
unfolding scopes_from scopes_of resolve_steps scopes_made resolve_need
computed_ScopesRun = tt

unfoldable pub computed_Resolution : Unit {0}
unfolding entry_of definition_of place_of with_of resolve_in scope_of resolve own
computed_Resolution = tt

unfoldable pub computed_Shapes : Unit {0}
unfolding predicate_of coded keyed shape analysed nodes_in nodes name_of global_of nothing singleton literal_test literal_tells compound test_tells narrowing
computed_Shapes = tt

unfoldable pub computed_Conditions : Unit {0}
unfolding local_name global_name builtin_set another_set builtins_key chain_key keyword literal_sort callee_in callee_name has_attr_call tests literal_comparison compared node analyze_in analyze conditional_fn call_condition
computed_Conditions = tt

unfoldable pub computed_Steps : Unit {0}
unfolding guard_for guard_at guards into any_item own_item let_item set_item opened condition_at
computed_Steps = tt

unfoldable pub computed_Walk : Unit {0}
unfolding steps visits visits_from walk edges recorded name_expr walk_steps most_in_force walk_need
computed_Walk = tt

unfoldable pub computed_Values : Unit {0}
unfolding sort holds outcome passed
computed_Values = tt

unfoldable pub computed_Premises : Unit {0}
unfolding called
computed_Premises = tt

unfoldable pub computed_tables : Unit {0}
unfolding computed_Base computed_Tree computed_Words computed_Index computed_Scopes computed_ScopesRun computed_Resolution
computed_tables = tt

unfoldable pub computed : Unit {0}
unfolding computed_tables computed_Shapes computed_Conditions computed_Steps computed_Walk computed_Values computed_Premises
computed = tt
