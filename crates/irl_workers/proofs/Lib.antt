pub mod EachWorker
